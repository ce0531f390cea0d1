-- `==` of the nodes of types decides whether they are one.
use Rattle.std.proofs.Common.{◌≡◌, true, ap, nat_eq}
use Rattle.std.specs.Cmp.Lexicographic.{pointwise, bytes_decides}
use Rattle.std.proofs.lemmas.Bool.{false≢true}
use Rattle.lt_definitions.proofs.SameNames.{both-true}
use Rattle.lt_types.specs.declared.ty.TyNode.{TyNode}
use Rattle.lt_types.specs.declared.ty.TyNode.TheVariants.{Var, Con}
use Rattle.lt_types.specs.contracts.ty.TyNodeEq.TheImpl.Laws.{laws-law}
use Rattle.lt_types.specs.contracts.ty.TyNodePartialEq.TheImpl.{eq-value}

pub node-same : (m n : TyNode) → eq-value.it m n ≡ true → m ≡ n
node-same (Var x) (Var y) e = ap Var ((bytes_decides x y).0 e)
node-same (Var x) (Con d js) e = absurd (false≢true e)
node-same (Con c is) (Var y) e = absurd (false≢true e)
node-same (Con c is) (Con d js) e =
    let both = both-true (pointwise nat_eq c d) (pointwise nat_eq is js) e in
    λ i. Con ((bytes_decides c d).0 both.0 i) ((bytes_decides is js).0 both.1 i)

pub same-node : (m : TyNode) → eq-value.it m m ≡ true
same-node m = laws-law.refl m
