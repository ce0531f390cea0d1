-- Sessions over quotients, forms and rules, of which the examples of refusals speak.
-- Source: this project's own.
use Rattle.std.specs.Prelude.{List, [], ◌∷◌, ◌++◌, codes, false}
use Rattle.lt_definitions.specs.Samples.{nat, tyvar, con, numbers}
use Rattle.lt_definitions.specs.Types.{Chars, TypeTree, bool}
use Rattle.lt_definitions.specs.Terms.{equation}
use Rattle.lt_definitions.specs.Items.{Item, type_item, const_item, axiom_item, empty, context_of}
use Rattle.lt_definitions.specs.Typing.{Signature}
use Rattle.lt_transport_definitions.specs.Notation.{WithType, ◌⇒◌, ◌~◌}
use Rattle.lt_transport_definitions.specs.Relations.{Correspondence, Parametrised, Registry}
use Rattle.lt_transport_definitions.specs.RelatorForm.{equality_statement, quotient_statement, composition_statement, lifted_type}
use Rattle.lt_transport_definitions.specs.Search.{equal}
use Rattle.lt_transport_definitions.specs.LawTexts.{laws_of_lifting, laws_of_lift}
use Rattle.lt_transport_definitions.specs.Sessions.{QuotientEntry, Session}
use Rattle.lt_transport_definitions.specs.QuotientTerms.{four_at}
use Rattle.lt_transport_definitions.specs.Commands.{relator_registered, rule_registered, Block, with_registration, session_behind}
use Rattle.lt_transport_definitions.specs.Rows.{Row, adds}
use Rattle.lt_transport_definitions.specs.TransportRows.{adds_transport}
use Rattle.lt_transport_definitions.specs.QuotientBlocks.{self_related, tail_block, tail_registrations}
use Rattle.lt_transport_definitions.specs.QuotientRows.{typedef_entry, adds_typedef_quotient}
use Rattle.lt_transport_definitions.specs.LiftRows.{adds_lifted}
use Rattle.lt_transport_definitions.specs.ParamRows.{form_body, adds_form}
use Rattle.lt_transport_definitions.specs.Samples.{session_over, with_laws, over_typedef_t, list_relator}
pub use Rattle.lt_transport_definitions.specs.BoxSamples.{cup, box, box_theory, over_boxes, lawless_boxes, over_correspondence}
use Rattle.lt_transport_definitions.specs.BoxSamples.{given_constant, arr, declares, four_declared, cup_four, arr_four, box_correspondence}

-- the block with which a row ends, or else nothing
abbrev pub block_in : Row → Block
block_in (adds items registered) = record { additions = items; registrations = registered }
block_in _ = record { additions = []; registrations = [] }

-- the block of lifting
abbrev pub lifting_block : QuotientEntry → Correspondence → Block
lifting_block e d = let domain : WithType = self_related e.raw_type e.four.rel in
    record { additions = tail_block e domain; registrations = tail_registrations e d domain }

-- the quotient of box
abbrev pub box_entry : QuotientEntry
box_entry = record {
  con = codes "box";
  label = codes "Q_box";
  abs_type = box (tyvar "a");
  raw_type = cup (tyvar "a");
  four = cup_four;
  of_typedef = false;
}

-- a session with it, and with a constant that is lifted over it
abbrev pub with_lifted_constant : Session → Session
with_lifted_constant s = let lifting : Session =
    session_behind s (lifting_block box_entry box_correspondence) in
    session_behind lifting (block_in (adds_lifted lifting (codes "lifted") (box (tyvar "a"))
    (given_constant "none" (cup (tyvar "a"))) (codes "none_resp")
    (four_at box_entry (tyvar "a" ∷ []))))

-- the same where the laws of lifting alone are registered
abbrev pub over_few_laws : Session
over_few_laws = with_lifted_constant (with_laws lawless_boxes (laws_of_lifting ++ laws_of_lift))

-- with the quotient of box and the lifted constant
abbrev pub over_quotient_of_box : Session
over_quotient_of_box = with_lifted_constant over_correspondence

-- the numbers, and that q is true
abbrev pub true_items : List Item
true_items = numbers
    ++ const_item (codes "q") bool ∷ axiom_item (codes "bq") (equation bool (con "true") (con "q"))
    ∷ []

-- the session over these, with that rule
abbrev pub over_true : Session
over_true = with_registration (session_over true_items) (rule_registered (codes "bq"))

-- and with the transport of q, whose image is true
abbrev pub over_transport : Session
over_transport = session_behind over_true
    (block_in (adds_transport (codes "same") equal (con "q") (con "true")))

-- the quotient of arr
abbrev pub arr_entry : QuotientEntry
arr_entry = record {
  con = codes "arr";
  label = codes "Q_arr";
  abs_type = arr (tyvar "a");
  raw_type = nat ⇒ tyvar "a";
  four = arr_four;
  of_typedef = false;
}

-- its correspondence
abbrev pub arr_correspondence : Correspondence
arr_correspondence =
    record {
      name = codes "Ta";
      raw = nat ⇒ tyvar "a";
      con = codes "arr";
      parameters = codes "a" ∷ [];
    }

-- the session with it
abbrev pub over_quotient_of_arr : Session
over_quotient_of_arr = session_behind over_boxes (lifting_block arr_entry arr_correspondence)

-- and with its parametrised form
abbrev pub over_form : Session
over_form = session_behind over_quotient_of_arr
    (block_in (adds_form (codes "arr") arr_entry
    (form_body over_quotient_of_arr.registry arr_entry)))

-- the session with the quotient of t, which has no parameter
abbrev pub over_quotient_of_t : Session
over_quotient_of_t = let P : WithType = record { term = con "P"; ty = nat ⇒ bool } in
    session_behind over_typedef_t (block_in (adds_typedef_quotient (typedef_entry (codes "t")
    (record {
      name = codes "t";
      params = [];
      predicate = con "P";
      abs = codes "abs_t";
      rep = codes "rep_t";
    }) P) P))

-- the type of a relator of lists
abbrev pub list_relator_type : TypeTree
list_relator_type = lifted_type ◌~◌ (codes "list") (tyvar "a" ∷ []) (tyvar "b" ∷ [])

-- the mapping of lists, and the three statements of a relator of theirs with this name
abbrev pub list_statements : Chars → List Item
list_statements R =
    const_item (codes "map") (lifted_type ◌⇒◌ (codes "list") (tyvar "a" ∷ []) (tyvar "b" ∷ []))
    ∷ axiom_item (codes "list_eq") (equality_statement (codes "list") R (tyvar "a" ∷ [])).term
    ∷ axiom_item (codes "list_quotient")
    (quotient_statement (codes "list") R (codes "map") (1 ∷ [])).term
    ∷ axiom_item (codes "list_comp") (composition_statement (codes "list") R (1 ∷ [])).term ∷ []

-- lists with a relator
abbrev pub list_items : List Item
list_items = type_item (codes "list") 1 ∷ type_item (codes "other") 1
    ∷ const_item (codes "list_all2") list_relator_type ∷ list_statements (codes "list_all2")

-- the session over these
abbrev pub over_lists : Session
over_lists = session_over list_items

-- with the relator
abbrev pub over_relator : Session
over_relator = with_registration over_lists (relator_registered list_relator)

-- a parametrised form of T
abbrev pub parametrised_box : Parametrised
parametrised_box =
    record { name = codes "pcr_box"; of = codes "T"; eq = codes "zz"; defined = codes "zz" }

-- with its constant declared
abbrev pub parametrised_signature : Signature
parametrised_signature =
    (context_of empty
    (type_item (codes "cup") 1 ∷ type_item (codes "box") 1
    ∷ four_declared (cup (tyvar "a")) (box (tyvar "a")) "R" "A" "B" "T"
    ++ declares "pcr_box" ((tyvar "a" ~ tyvar "b") ⇒ cup (tyvar "a") ~ box (tyvar "b"))
    ∷ [])).signature

-- and T registered
abbrev pub parametrised_registry : Registry
parametrised_registry = over_correspondence.registry
