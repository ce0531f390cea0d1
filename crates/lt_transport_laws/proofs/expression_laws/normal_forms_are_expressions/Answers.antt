use Rattle.lt_transport_laws.proofs.NormalExpressions.{equalities-expressions, normals-are-expressions}
use Rattle.lt_transport_laws.proofs.expression_laws.normal_forms_are_expressions.Goals as goal

pub returns : goal.returns
returns c = record { equality = equalities-expressions; normal = normals-are-expressions }
