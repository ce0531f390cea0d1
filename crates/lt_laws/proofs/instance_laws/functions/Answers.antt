use Rattle.std.proofs.Common.{refl}
use Rattle.lt_laws.proofs.instance_laws.functions.Goals as goal

pub returns-clause-rel_fun_app : goal.returns-clause-rel_fun_app
returns-clause-rel_fun_app c = λ m R S f g x y. refl

pub returns-clause-rel_fun_abs : goal.returns-clause-rel_fun_abs
returns-clause-rel_fun_abs c = λ m R S f g. refl

pub returns-clause-rel_fun_eq : goal.returns-clause-rel_fun_eq
returns-clause-rel_fun_eq c = λ m. refl

pub returns-clause-rel_fun_distr : goal.returns-clause-rel_fun_distr
returns-clause-rel_fun_distr c = λ m R S U V f h. refl

pub returns-clause-map_fun_apply : goal.returns-clause-map_fun_apply
returns-clause-map_fun_apply c = λ m f g h x. refl

pub returns-clause-id_apply : goal.returns-clause-id_apply
returns-clause-id_apply c = λ m x. refl
