-- What stays while an item is drafted, and where the draft is dropped.
use Rattle.std.proofs.Common.{◌≡◌, ℕ, List, [], ◌∷◌, ◌++◌, length, map, take, refl, sym, ◌∙◌, ap, subst, append_assoc, append-nil}
use Rattle.std.proofs.Math.Seq.{take-append_seam}
use Rattle.lt_definitions.specs.Types.{Chars, TypeTree}
use Rattle.lt_definitions.specs.Terms.{TermTree}
use Rattle.lt_definitions.specs.Typing.{Signature}
use Rattle.lt_hol.specs.Faults.{with_type, with_const}
use Rattle.lt_store.specs.Trees.{tree_at}
use Rattle.lt_store.proofs.TreeLemmas.{extends_same, extends_on}
use Rattle.lt_kernel.specs.Sequents.{statements_at}
use Rattle.lt_kernel.specs.State.{State, Stays, Keeps}
use Rattle.lt_extend.specs.declared.drafts.Mark.{Mark}
use Rattle.lt_extend.specs.Standing.{GoesOn, IsBehind}
use Rattle.lt_extend.specs.Drafts.{IsMark, before}

pub goes-none : {A : Type 0} (xs : List A) → GoesOn xs xs
goes-none xs = ([], sym (append-nil xs))

pub goes-same : {A : Type 0} (xs ys : List A) → ys ≡ xs → GoesOn xs ys
goes-same xs ys e = ([], e ∙ sym (append-nil xs))

pub goes-on : {A : Type 0} (xs ys zs : List A) → GoesOn xs ys → GoesOn ys zs → GoesOn xs zs
goes-on xs ys zs p q = (p.0 ++ q.0, q.1 ∙ ap (λ ws. ws ++ q.0) p.1 ∙ append_assoc xs p.0 q.0)

pub goes-back : {A : Type 0} (xs ys : List A) (n : ℕ) → GoesOn xs ys → n ≡ length xs → take n ys ≡ xs
goes-back xs ys n p e = (λ i. take (e i) (p.1 i)) ∙ take-append_seam xs p.0

map-front : {A B : Type 0} (f g : A → B) (xs ys : List A) → map f (xs ++ ys) ≡ map g (xs ++ ys) → map f xs ≡ map g xs
map-front f g [] ys h = refl
map-front f g (x ∷ xs) ys h =
    let head : f x ≡ g x = cc h in
    let tail : map f (xs ++ ys) ≡ map g (xs ++ ys) = cc h in
    λ i. head i ∷ map-front f g xs ys tail i

pub behind-none : (s : State) → IsBehind s s
behind-none s = record {
  nodes = extends_same s.nodes;
  types = goes-none s.signature.types;
  consts = goes-none s.signature.consts;
  named = goes-none s.named;
  stated = refl;
  steps = refl;
  sequents = refl;
}

pub behind-same : (old new : State) → new ≡ old → IsBehind old new
behind-same old new e = subst (λ (s : State). IsBehind old s) (sym e) (behind-none old)

pub behind-on : (old mid new : State) → IsBehind old mid → IsBehind mid new → IsBehind old new
behind-on old mid new p q =
    let all : statements_at new.nodes (old.named ++ p.named.0) ≡ statements_at mid.nodes (old.named ++ p.named.0) =
    subst (λ (ns : List (Chars × ℕ)). statements_at new.nodes ns ≡ statements_at mid.nodes ns) p.named.1 q.stated in
    record {
      nodes = extends_on old.nodes mid.nodes new.nodes p.nodes q.nodes;
      types = goes-on old.signature.types mid.signature.types new.signature.types p.types q.types;
      consts = goes-on old.signature.consts mid.signature.consts new.signature.consts p.consts q.consts;
      named = goes-on old.named mid.named new.named p.named q.named;
      stated = map-front (λ p. (p.0, tree_at new.nodes p.1)) (λ p. (p.0, tree_at mid.nodes p.1)) old.named p.named.0 all ∙ p.stated;
      steps = q.steps ∙ p.steps;
      sequents = q.sequents ∙ p.sequents;
    }

-- a term is put into the store
pub behind-keeps : (old new : State) → Keeps old new → IsBehind old new
behind-keeps old new k = record {
  nodes = k.stays.nodes;
  types = goes-same old.signature.types new.signature.types (ap (λ (s : Signature). s.types) k.stays.signature);
  consts = goes-same old.signature.consts new.signature.consts (ap (λ (s : Signature). s.consts) k.stays.signature);
  named = goes-same old.named new.named k.stays.named;
  stated = ap (statements_at new.nodes) (sym k.stays.named) ∙ k.stays.statements;
  steps = k.steps;
  sequents = k.sequents;
}

-- a statement is named
pub behind-named : (old new : State) (l : Chars) (id : ℕ) → new ≡ record old { named = old.named ++ (l, id) ∷ [] } → IsBehind old new
behind-named old new l id e = subst (λ (s : State). IsBehind old s) (sym e) (record {
  nodes = extends_same old.nodes;
  types = goes-none old.signature.types;
  consts = goes-none old.signature.consts;
  named = ((l, id) ∷ [], refl);
  stated = refl;
  steps = refl;
  sequents = refl;
})

-- a type is declared
pub behind-type : (old new : State) (n : Chars) (k : ℕ) → new ≡ record old { signature = with_type n k old.signature } → IsBehind old new
behind-type old new n k e = subst (λ (s : State). IsBehind old s) (sym e) (record {
  nodes = extends_same old.nodes;
  types = ((n, k) ∷ [], refl);
  consts = goes-none old.signature.consts;
  named = goes-none old.named;
  stated = refl;
  steps = refl;
  sequents = refl;
})

-- a constant is declared
pub behind-const : (old new : State) (n : Chars) (ty : TypeTree) → new ≡ record old { signature = with_const n ty old.signature } → IsBehind old new
behind-const old new n ty e = subst (λ (s : State). IsBehind old s) (sym e) (record {
  nodes = extends_same old.nodes;
  types = goes-none old.signature.types;
  consts = ((n, ty) ∷ [], refl);
  named = goes-none old.named;
  stated = refl;
  steps = refl;
  sequents = refl;
})

-- a draft that is dropped leaves what was there
pub back-stays : (old mid new : State) (kept : List (Chars × TermTree)) (mark : Mark) → IsMark old kept mark → IsBehind old mid → new ≡ before mark mid → Stays old new
back-stays old mid new kept mark m b e =
    let named : take mark.proof.statements mid.named ≡ old.named = goes-back old.named mid.named mark.proof.statements b.named m.named in
    let types : take mark.proof.sig.types mid.signature.types ≡ old.signature.types = goes-back old.signature.types mid.signature.types mark.proof.sig.types b.types m.types in
    let consts : take mark.proof.sig.constants mid.signature.consts ≡ old.signature.consts =
    goes-back old.signature.consts mid.signature.consts mark.proof.sig.constants b.consts m.constants in
    subst (Stays old) (sym e) (record {
      nodes = b.nodes;
      signature = λ i. record { types = types i; consts = consts i };
      named = named;
      statements = ap (statements_at mid.nodes) named ∙ b.stated;
    })

pub kept-back : (old mid new : List (Chars × TermTree)) (s : State) (mark : Mark) → IsMark s old mark → GoesOn old mid → new ≡ take mark.statements mid → new ≡ old
kept-back old mid new s mark m b e = e ∙ goes-back old mid mark.statements b m.kept
