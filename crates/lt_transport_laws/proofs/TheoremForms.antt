-- What a theorem is that is read as one of a quotient.
use Rattle.std.specs.Prelude.{◌≡◌, [], ◌∷◌, ◌&&◌, false, Option, Some, None, codes}
use Rattle.std.proofs.Common.{refl, sym, ap, ◌∙◌, subst, inl, inr}
use Rattle.lt_definitions.specs.Types.{Chars, same_name, TypeTree}
use Rattle.lt_definitions.specs.Terms.{TermTree, free_variable, bound_name, constant, application, abstraction}
use Rattle.lt_definitions.specs.Typing.{Signature}
use Rattle.lt_definitions.proofs.SameNames.{bool_cases}
use Rattle.lt_nameless.proofs.BindingLemmas.{if-true, if-false}
use Rattle.lt_transport_definitions.specs.Constants.{is_counted}
use Rattle.lt_transport_definitions.specs.Forms.{constructor_name}
use Rattle.lt_transport_definitions.specs.Sessions.{QuotientEntry}
use Rattle.lt_transport_definitions.specs.QuotientBlocks.{entry_between, as_quotient}

-- a theorem that is read as one of a quotient says Quotient of its relation and of three other terms
quotient-named : (sig : Signature) (l c : Chars) (raw abs : TypeTree) (R A B T : TermTree) (q : QuotientEntry)
    → as_quotient sig l (application (application (application (application (constant c (raw ∷ abs ∷ [])) R) A) B) T) ≡ Some q
    → (c' : Chars) × (A' : TermTree) × (B' : TermTree) × (T' : TermTree)
    × (application (application (application (application (constant c (raw ∷ abs ∷ [])) R) A) B) T
    ≡ application (application (application (application (constant c' (q.raw_type ∷ q.abs_type ∷ [])) q.four.rel.term) A') B') T')
    × (constructor_name q.abs_type ≡ q.con) × (q.label ≡ l)
quotient-named sig l c raw abs R A B T q e = elim (bool_cases (same_name c (codes "Quotient") && is_counted sig c)) [
  | inl t ↦
      let x : Some (entry_between l raw abs R A B T false) ≡ Some q =
      sym (if-true (same_name c (codes "Quotient") && is_counted sig c) (Some (entry_between l raw abs R A B T false)) None t) ∙ e in
      let y : entry_between l raw abs R A B T false ≡ q = cc in (
        c,
        A,
        B,
        T,
        (λ i. application (application (application (application (constant c ((y i).raw_type ∷ (y i).abs_type ∷ [])) (y i).four.rel.term) A) B) T),
        subst (λ (d : QuotientEntry). constructor_name d.abs_type ≡ d.con) y refl,
        sym (ap (λ (d : QuotientEntry). d.label) y),
      )
  | inr t ↦ absurd (none-some q (sym (if-false (same_name c (codes "Quotient") && is_counted sig c)
      (Some (entry_between l raw abs R A B T false)) None t) ∙ e))
]
  where
    none-some : (q : QuotientEntry) → ◌≡◌ {A = Option QuotientEntry} None (Some q) → ⊥
    none-some q e = cc

pub quotient-is : (sig : Signature) (l : Chars) (t : TermTree) (q : QuotientEntry) → as_quotient sig l t ≡ Some q
    → (c : Chars) × (A : TermTree) × (B : TermTree) × (T : TermTree)
    × (t ≡ application (application (application (application (constant c (q.raw_type ∷ q.abs_type ∷ [])) q.four.rel.term) A) B) T)
    × (constructor_name q.abs_type ≡ q.con) × (q.label ≡ l)
quotient-is sig l (free_variable x ty) q e = absurd (cc)
quotient-is sig l (bound_name x) q e = absurd (cc)
quotient-is sig l (constant c ts) q e = absurd (cc)
quotient-is sig l (abstraction x ty b) q e = absurd (cc)
quotient-is sig l (application (free_variable x ty) T) q e = absurd (cc)
quotient-is sig l (application (bound_name x) T) q e = absurd (cc)
quotient-is sig l (application (constant c ts) T) q e = absurd (cc)
quotient-is sig l (application (abstraction x ty b) T) q e = absurd (cc)
quotient-is sig l (application (application (free_variable x ty) B) T) q e = absurd (cc)
quotient-is sig l (application (application (bound_name x) B) T) q e = absurd (cc)
quotient-is sig l (application (application (constant c ts) B) T) q e = absurd (cc)
quotient-is sig l (application (application (abstraction x ty b) B) T) q e = absurd (cc)
quotient-is sig l (application (application (application (free_variable x ty) A) B) T) q e = absurd (cc)
quotient-is sig l (application (application (application (bound_name x) A) B) T) q e = absurd (cc)
quotient-is sig l (application (application (application (constant c ts) A) B) T) q e = absurd (cc)
quotient-is sig l (application (application (application (abstraction x ty b) A) B) T) q e = absurd (cc)
quotient-is sig l (application (application (application (application (free_variable x ty) R) A) B) T) q e = absurd (cc)
quotient-is sig l (application (application (application (application (bound_name x) R) A) B) T) q e = absurd (cc)
quotient-is sig l (application (application (application (application (application f g) R) A) B) T) q e = absurd (cc)
quotient-is sig l (application (application (application (application (abstraction x ty b) R) A) B) T) q e = absurd (cc)
quotient-is sig l (application (application (application (application (constant c []) R) A) B) T) q e = absurd (cc)
quotient-is sig l (application (application (application (application (constant c (t ∷ [])) R) A) B) T) q e = absurd (cc)
quotient-is sig l (application (application (application (application (constant c (t ∷ u ∷ w ∷ ts)) R) A) B) T) q e = absurd (cc)
quotient-is sig l (application (application (application (application (constant c (raw ∷ abs ∷ [])) R) A) B) T) q e = quotient-named sig l c raw abs R A B T q e
