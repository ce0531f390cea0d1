-- Replacing a free variable over the nodes of a term.
use Rattle.std.proofs.Common.{◌≡◌, List, [], ◌∷◌, map, Bool, true, false, if◌then◌else◌, refl, sym, ap, arith}
use Rattle.std.proofs.lemmas.List.{length-map}
use Rattle.lt_definitions.specs.Types.{Chars, TypeTree}
use Rattle.lt_definitions.specs.Terms.{TermTree, free_variable}
use Rattle.lt_definitions.specs.Binding.{replaced}
use Rattle.lt_terms.specs.declared.term.TermNode.{TermNode}
use Rattle.lt_terms.specs.declared.term.TermNode.TheVariants.{Free, Bound, Const, App, Lam}
use Rattle.lt_terms.specs.Layout.{grow, HasRoom}
use Rattle.lt_terms.specs.FreeNodes.{is_free}

-- the variable itself
pub replaces : (x : Chars) (ty : TypeTree) (by : TermTree) (before : List TermTree) (n : TermNode) → is_free x ty n ≡ true
    → by ∷ map (replaced x ty by) before ≡ map (replaced x ty by) (grow before n)
replaces x ty by before (Free y u) e = ap (λ (b : Bool). (if b then by else free_variable y u) ∷ map (replaced x ty by) before) (sym e)
replaces x ty by before (Bound y) e = absurd (cc)
replaces x ty by before (Const c ts) e = absurd (cc)
replaces x ty by before (App i j) e = absurd (cc)
replaces x ty by before (Lam y u i) e = absurd (cc)

-- any other node
pub keeps : (x : Chars) (ty : TypeTree) (by : TermTree) (before : List TermTree) (n : TermNode) → is_free x ty n ≡ false → HasRoom (map (replaced x ty by) before) n
    → grow (map (replaced x ty by) before) n ≡ map (replaced x ty by) (grow before n)
keeps x ty by before (Free y u) e r = ap (λ (b : Bool). (if b then by else free_variable y u) ∷ map (replaced x ty by) before) (sym e)
keeps x ty by before (Bound y) e r = refl
keeps x ty by before (Const c ts) e r = refl
keeps x ty by (a ∷ f ∷ before) (App i j) e r = refl
keeps x ty by (a ∷ []) (App i j) e r = absurd (omega arith)
keeps x ty by [] (App i j) e r = absurd (omega arith)
keeps x ty by (b ∷ before) (Lam y u i) e r = refl
keeps x ty by [] (Lam y u i) e r = absurd (omega arith)

pub room-replaced : (x : Chars) (ty : TypeTree) (by : TermTree) (before : List TermTree) (n : TermNode) → HasRoom before n → HasRoom (map (replaced x ty by) before) n
room-replaced x ty by before (Free y u) r = tt
room-replaced x ty by before (Bound y) r = tt
room-replaced x ty by before (Const c ts) r = tt
room-replaced x ty by before (App i j) r = simp length-map r
room-replaced x ty by before (Lam y u i) r = simp length-map r
