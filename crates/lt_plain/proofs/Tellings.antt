-- What the refusals that are made of faults tell.
use Rattle.std.specs.Prelude.{option_map}
use Rattle.std.proofs.Common.{◌≡◌, ◌⊎◌, inl, inr, ℕ, List, Option, Some, None, refl, sym, ◌∙◌, ap, subst}
use Rattle.lt_definitions.specs.Typing.{Fault}
use Rattle.lt_definitions.specs.Items.{Context}
use Rattle.lt_definitions.specs.Theory as refusals
use Rattle.lt_definitions.specs.Theory.{refusal, in_line, not_proved}
use Rattle.lt_hol.specs.declared.type_fault.TypeFault.{TypeFault}
use Rattle.lt_hol.specs.declared.type_fault.TypeFault.TheVariants as types
use Rattle.lt_hol.specs.declared.item.Item.{Item}
use Rattle.lt_hol.specs.Items.{item_of}
use Rattle.lt_conditions.specs.declared.item_fault.ItemFault.{ItemFault}
use Rattle.lt_conditions.specs.declared.item_fault.ItemFault.TheVariants as items
use Rattle.lt_conditions.specs.declared.item_fault.TermSequent.{TermSequent}
use Rattle.lt_conditions.specs.Refusing.{IsFault, Refuses, shown as of_fault}
use Rattle.lt_walks.specs.Walks.{place_of}
use Rattle.lt_walks.specs.PlainWalks.{line_of}
use Rattle.lt_commands.specs.declared.refusal.Refusal.{Refusal}
use Rattle.lt_commands.specs.declared.refusal.Refusal.TheVariants.{Memory}
use Rattle.lt_commands.specs.declared.refusal.Placed.{Placed}
use Rattle.lt_plain.specs.Flattening.{as_terms, flat, flat_type, line_in}
use Rattle.lt_plain.specs.Telling.{as_refusal, shown, Tells}
use Rattle.lt_plain.specs.Stepping.{RefusesItem}

flat_fault : (f : Fault) (e : TypeFault) → IsFault f e → flat_type e ≡ as_refusal f
flat_fault f (types.UnknownType c) h = sym (ap as_refusal h)
flat_fault f (types.Arity c) h = sym (ap as_refusal h)
flat_fault f (types.UnknownConst c) h = sym (ap as_refusal h)
flat_fault f (types.TypeArgs c) h = sym (ap as_refusal h)
flat_fault f (types.Unbound x) h = sym (ap as_refusal h)
flat_fault f (types.Mismatch t u) h = sym (ap as_refusal h)
flat_fault f (types.Duplicate c) h = absurd h
flat_fault f types.Memory h = absurd h

-- A refusal, by what it is, told by a fault: the refusal's line is the fault's.
pub record IsTold (o : Option refusals.Refusal) (e : ItemFault) : Type 0 where
  pub r : refusals.Refusal
  pub is : o ≡ Some r
  pub tells : Tells r (flat e)
  pub line : line_in e ≡ line_of r

kept_last : (last : Option TermSequent) → option_map of_fault last ≡ option_map shown (option_map as_terms last)
kept_last None = refl
kept_last (Some s) = refl

pub told : (o : Option refusals.Refusal) (e : ItemFault) → Refuses o e → (flat e ≡ Memory) ⊎ IsTold o e
told o (items.Duplicate n) h = inr (record { r = refusals.duplicate n; is = h; tells = refl; line = refl })
told o (items.UnknownType c) h = inr (record { r = _; is = h; tells = refl; line = refl })
told o (items.Arity c) h = inr (record { r = _; is = h; tells = refl; line = refl })
told o (items.UnknownConst c) h = inr (record { r = _; is = h; tells = refl; line = refl })
told o (items.TypeArgs c) h = inr (record { r = _; is = h; tells = refl; line = refl })
told o (items.Unbound x) h = inr (record { r = _; is = h; tells = refl; line = refl })
told o (items.Mismatch t u) h = inr (record { r = _; is = h; tells = refl; line = refl })
told o (items.NotBool ty) h = inr (record { r = _; is = h; tells = refl; line = refl })
told o (items.UnknownLabel l) h = inr (record { r = _; is = h; tells = refl; line = refl })
told o items.OpenTerm h = inr (record { r = _; is = h; tells = refl; line = refl })
told o (items.LooseTypeVar a) h = inr (record { r = _; is = h; tells = refl; line = refl })
told o items.TypedefShape h = inr (record { r = _; is = h; tells = refl; line = refl })
told o (items.InLine n e) (f, h, k) = inr (record { r = in_line n f; is = h; tells = flat_fault f e k; line = refl })
told o (items.BadLine n r) h = inr (record { r = _; is = h; tells = refl; line = refl })
told o (items.NotProved last) (s, h, k) =
    inr (record { r = not_proved s; is = h; tells = (option_map as_terms last, refl, k ∙ kept_last last); line = refl })
told o items.Memory h = inl refl

-- A fault with its place is the refusal of the item with its place.
pub refuses_item : (ctx : Context) (item : Item) (from : ℕ) (lines : List ℕ) (e : ItemFault) (p : Placed) → Refuses (refusal ctx (item_of item)) e
    → p.refusal ≡ flat e → p.at ≡ place_of from lines (line_in e) → RefusesItem ctx item from lines p
refuses_item ctx item from lines e p h same at = by (told (refusal ctx (item_of item)) e h)
  where
    by : (flat e ≡ Memory) ⊎ IsTold (refusal ctx (item_of item)) e → RefusesItem ctx item from lines p
    by (inl m) = inl (same ∙ m)
    by (inr t) = inr (t.r, t.is, subst (λ (x : Refusal). Tells t.r x) (sym same) t.tells, at ∙ ap (place_of from lines) t.line)
