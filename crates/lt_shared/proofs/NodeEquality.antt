-- `==` of nodes decides whether they are one.
use Rattle.std.proofs.Common.{◌≡◌, true, ap, nat_eq, arith}
use Rattle.std.specs.Cmp.Lexicographic.{pointwise, pointwise_decides, bytes_decides}
use Rattle.std.proofs.lemmas.Bool.{false≢true}
use Rattle.std.proofs.lemmas.Bool.Decides.{nat_tests}
use Rattle.std.proofs.lemmas.Grind.{common_steps}
use Rattle.lt_definitions.specs.Types.{same_type}
use Rattle.lt_definitions.proofs.SameNames.{both-true, type-true, true-type}
use Rattle.lt_store.specs.declared.node.Node.{Node}
use Rattle.lt_store.specs.declared.node.Node.TheVariants.{Free, Bound, Const, App, Lam}
use Rattle.lt_store.specs.contracts.node.NodeEq.TheImpl.Laws.{laws-law}
use Rattle.lt_store.specs.contracts.node.NodePartialEq.TheImpl.{eq-value}

pub node-same : (m n : Node) → eq-value.it m n ≡ true → m ≡ n
node-same (Free x t) (Free y u) e =
    let both = both-true (pointwise nat_eq x y) (same_type t u) e in
    λ i. Free ((bytes_decides x y).0 both.0 i) (type-true t u both.1 i)
node-same (Bound i) (Bound j) e = let same : i ≡ j = grind (arith, common_steps, nat_tests) in ap Bound same
node-same (Const x ts) (Const y us) e =
    let both = both-true (pointwise nat_eq x y) (pointwise same_type ts us) e in
    λ i. Const ((bytes_decides x y).0 both.0 i) ((pointwise_decides {E = same_type} (λ t u. (type-true t u, true-type t u)) ts us).0 both.1 i)
node-same (App f a) (App g b) e =
    let both = both-true (nat_eq f g) (nat_eq a b) e in
    let p : f ≡ g = grind (arith, common_steps, nat_tests, both.0) in
    let q : a ≡ b = grind (arith, common_steps, nat_tests, both.1) in
    λ i. App (p i) (q i)
node-same (Lam t b) (Lam u c) e =
    let both = both-true (same_type t u) (nat_eq b c) e in
    let q : b ≡ c = grind (arith, common_steps, nat_tests, both.1) in
    λ i. Lam (type-true t u both.0 i) (q i)
node-same (Free x t) (Bound j) e = absurd (false≢true e)
node-same (Free x t) (Const y us) e = absurd (false≢true e)
node-same (Free x t) (App g b) e = absurd (false≢true e)
node-same (Free x t) (Lam u c) e = absurd (false≢true e)
node-same (Bound i) (Free y u) e = absurd (false≢true e)
node-same (Bound i) (Const y us) e = absurd (false≢true e)
node-same (Bound i) (App g b) e = absurd (false≢true e)
node-same (Bound i) (Lam u c) e = absurd (false≢true e)
node-same (Const x ts) (Free y u) e = absurd (false≢true e)
node-same (Const x ts) (Bound j) e = absurd (false≢true e)
node-same (Const x ts) (App g b) e = absurd (false≢true e)
node-same (Const x ts) (Lam u c) e = absurd (false≢true e)
node-same (App f a) (Free y u) e = absurd (false≢true e)
node-same (App f a) (Bound j) e = absurd (false≢true e)
node-same (App f a) (Const y us) e = absurd (false≢true e)
node-same (App f a) (Lam u c) e = absurd (false≢true e)
node-same (Lam t b) (Free y u) e = absurd (false≢true e)
node-same (Lam t b) (Bound j) e = absurd (false≢true e)
node-same (Lam t b) (Const y us) e = absurd (false≢true e)
node-same (Lam t b) (App g c) e = absurd (false≢true e)

pub same-node : (m : Node) → eq-value.it m m ≡ true
same-node m = laws-law.refl m
