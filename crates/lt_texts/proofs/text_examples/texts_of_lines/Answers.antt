use Rattle.std.proofs.Common.{refl}
use Rattle.std.specs.Fmt.{digits}
use Rattle.lt_texts.proofs.text_examples.texts_of_lines.Goals as goal

pub returns-clause-assume : goal.returns-clause-assume
unfolding digits
returns-clause-assume c = refl

pub returns-clause-weaken : goal.returns-clause-weaken
unfolding digits
returns-clause-weaken c = refl

pub returns-clause-refl : goal.returns-clause-refl
unfolding digits
returns-clause-refl c = refl

pub returns-clause-sym : goal.returns-clause-sym
unfolding digits
returns-clause-sym c = refl

pub returns-clause-trans : goal.returns-clause-trans
unfolding digits
returns-clause-trans c = refl

pub returns-clause-cong : goal.returns-clause-cong
unfolding digits
returns-clause-cong c = refl

pub returns-clause-abs : goal.returns-clause-abs
unfolding digits
returns-clause-abs c = refl

pub returns-clause-beta : goal.returns-clause-beta
unfolding digits
returns-clause-beta c = refl

pub returns-clause-eta : goal.returns-clause-eta
unfolding digits
returns-clause-eta c = refl

pub returns-clause-eqmp : goal.returns-clause-eqmp
unfolding digits
returns-clause-eqmp c = refl

pub returns-clause-impI : goal.returns-clause-impI
unfolding digits
returns-clause-impI c = refl

pub returns-clause-mp : goal.returns-clause-mp
unfolding digits
returns-clause-mp c = refl

pub returns-clause-allI : goal.returns-clause-allI
unfolding digits
returns-clause-allI c = refl

pub returns-clause-allE : goal.returns-clause-allE
unfolding digits
returns-clause-allE c = refl

pub returns-clause-iff : goal.returns-clause-iff
unfolding digits
returns-clause-iff c = refl

pub returns-clause-inst : goal.returns-clause-inst
unfolding digits
returns-clause-inst c = refl

pub returns-clause-tinst : goal.returns-clause-tinst
unfolding digits
returns-clause-tinst c = refl

pub returns-clause-select : goal.returns-clause-select
unfolding digits
returns-clause-select c = refl

pub returns-clause-ccontr : goal.returns-clause-ccontr
unfolding digits
returns-clause-ccontr c = refl

pub returns-clause-thm : goal.returns-clause-thm
unfolding digits
returns-clause-thm c = refl
