use Rattle.lt_nameless.proofs.TypeLaws.{typed_terms_have_no_loose_names}
use Rattle.lt_nameless.proofs.typing_laws.typed_terms_have_no_loose_names.Goals as goal

pub returns : goal.returns
returns c = typed_terms_have_no_loose_names
