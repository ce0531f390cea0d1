-- What a command gives leaves a session one of a valid plain theory.
use Rattle.std.specs.Prelude.{◌≡◌, List, [], ◌∷◌, ◌++◌, Some}
use Rattle.std.proofs.Common.{refl, sym, ap, ◌∙◌, subst}
use Rattle.lt_definitions.specs.Types.{Chars, found, bool}
use Rattle.lt_definitions.specs.Terms.{TermTree}
use Rattle.lt_definitions.specs.Typing.{HasType}
use Rattle.lt_definitions.specs.Items.{Item, Context, empty, with_item, context_of}
use Rattle.lt_definitions.specs.Theory.{AreValid}
use Rattle.lt_nameless.specs.Booleans.{IsSoundSignature}
use Rattle.lt_nameless.proofs.BooleanSteps.{signatures_are_sound}
use Rattle.lt_nameless.proofs.StatementTypes.{IsSound, sound-empty, sound-items, statements_are_boolean}
use Rattle.lt_transport_definitions.specs.Sessions.{Session, signature_of}
use Rattle.lt_texts.specs.Commands.{Command}
use Rattle.lt_transport_definitions.specs.Blocks.{Gives}
use Rattle.lt_transport_laws.specs.OrderStatements.{IsOfTheory}
use Rattle.lt_transport_laws.proofs.PlainWalks.{behind-same, valid-on}

context-on : (ctx : Context) (xs ys : List Item) → context_of ctx (xs ++ ys) ≡ context_of (context_of ctx xs) ys
context-on ctx [] ys = refl
context-on ctx (x ∷ xs) ys = context-on (with_item ctx x) xs ys

-- the valid items behind what a session gives
pub theory-kept : (s : Session) (c : Command) (items : List Item) (later : Session) → IsOfTheory s → Gives s c items later → IsOfTheory later
theory-kept s c items later t g =
    let v = subst (λ (d : Context). AreValid d items) t.2 g.3 in
    let behind : later.context ≡ context_of s.context items = ap (λ (u : Session). u.context) g.4 ∙ behind-same s g.0 items g.2 in (
      t.0 ++ items,
      valid-on empty t.0 items t.1 v,
      behind ∙ (ap (λ (d : Context). context_of d items) t.2 ∙ sym (context-on empty t.0 items)),
    )

-- what such a session declares is sound, and what it states is boolean
pub theory-sound : (s : Session) → IsOfTheory s → IsSoundSignature (signature_of s)
theory-sound s t = subst (λ (d : Context). IsSoundSignature d.signature) (sym t.2) (signatures_are_sound t.0 t.1)

pub theory-stated : (s : Session) → IsOfTheory s → (l : Chars) (p : TermTree) → found l s.context.statements ≡ Some p → HasType (signature_of s) [] p bool
theory-stated s t l p e =
    let f : found l (context_of empty t.0).statements ≡ Some p = subst (λ (d : Context). found l d.statements ≡ Some p) t.2 e in
    subst (λ (d : Context). HasType d.signature [] p bool) (sym t.2) (statements_are_boolean t.0 t.1 l p f).0

pub theory-context : (s : Session) → IsOfTheory s → IsSound s.context
theory-context s t = subst IsSound (sym t.2) (sound-items empty t.0 sound-empty t.1)
