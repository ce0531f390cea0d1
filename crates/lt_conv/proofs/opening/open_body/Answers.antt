use Rattle.lt_conv.proofs.Stepping.{as_equation, variable-sound, variable-redex, place-equation, place-sound, body-opened}
use Rattle.lt_conv.proofs.opening.open_body.Goals as goal

pub new_name-requires : goal.new_name-requires
new_name-requires g c = (c.in_ok-ty.ensures.body c.requires).within

pub at_variable-requires : goal.at_variable-requires
at_variable-requires g c = (c.right-t.ensures (as_equation c.requires.holds)).within

pub beta-requires-clause-t : goal.beta-requires-clause-t
beta-requires-clause-t g c = variable-sound c.args.proof.now c.at_variable.new.proof c.args.i c.right-t.result c.in_ok-redex.redex c.in_ok-x.x c.in_ok-ty.ty c.requires c.right-t.ensures (c.in_ok-ty.ensures.ty c.requires) c.at_variable.ensures.carries c.in_ok-redex.ensures.made

pub beta-requires-clause-redex : goal.beta-requires-clause-redex
beta-requires-clause-redex g c = variable-redex c.args.proof.now c.at_variable.new.proof c.args.i c.right-t.result c.in_ok-redex.redex c.in_ok-x.x c.in_ok-ty.ty c.requires c.right-t.ensures (c.in_ok-ty.ensures.ty c.requires) c.at_variable.ensures.carries c.in_ok-redex.ensures.made

pub right-place-requires : goal.right-place-requires
right-place-requires g c = place-equation c.args.proof.now c.at_variable.new.proof c.args.i c.right-t.result c.in_ok-redex.redex c.in_ok-x.x c.in_ok-ty.ty c.requires c.right-t.ensures (c.in_ok-ty.ensures.ty c.requires) c.at_variable.ensures.carries c.in_ok-redex.ensures.made c.beta.new.proof c.in_ok-opened.opened c.in_ok-opened.ensures.line

pub refl-requires : goal.refl-requires
refl-requires g c = place-sound c.args.proof.now c.at_variable.new.proof c.args.i c.right-t.result c.in_ok-redex.redex c.in_ok-x.x c.in_ok-ty.ty c.requires c.right-t.ensures (c.in_ok-ty.ensures.ty c.requires) c.at_variable.ensures.carries c.in_ok-redex.ensures.made c.beta.new.proof c.in_ok-opened.opened c.in_ok-opened.ensures.line c.right-place.result c.right-place.ensures

pub returns-clause-opened : goal.returns-clause-opened
returns-clause-opened g c = λ q. body-opened c.args.proof.now c.at_variable.new.proof c.args.i c.right-t.result c.in_ok-redex.redex c.in_ok-x.x c.in_ok-ty.ty q c.right-t.ensures (c.in_ok-ty.ensures.ty q) c.at_variable.ensures.carries c.in_ok-redex.ensures.made c.beta.new.proof c.in_ok-opened.opened c.in_ok-opened.ensures.line c.right-place.result c.right-place.ensures c.refl.new.proof c.in_ok-line.line c.in_ok-ty.body c.args.floor c.in_ok-x.ensures.long c.in_ok-line.ensures.line (c.in_ok-ty.ensures.body q) c.in_ok-x.ensures.new
