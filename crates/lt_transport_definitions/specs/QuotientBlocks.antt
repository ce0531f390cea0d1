-- What a quotient's theorem says, its tests, and the blocks that follow a quotient.
-- Source: setup_lifting of Isabelle; the tests and the blocks are this project's own.
use Rattle.std.specs.Prelude.{List, [], ◌∷◌, ◌++◌, Bool, false, ◌&&◌, ◌||◌, not, map, Option, Some, None, codes}
use Rattle.std.specs.List.{list_all}
use Prim.Native.String.{String}
use Rattle.lt_definitions.specs.Types.{Chars, same_name, TypeTree, type_variable, type_constructor, TypeTrees, no_types, type_and, bool, type_variables}
use Rattle.lt_definitions.specs.Terms.{TermTree, constant, application, term_names}
use Rattle.lt_definitions.specs.Typing.{Signature}
use Rattle.lt_definitions.specs.Printing.{type_variable_name}
use Rattle.lt_transport_definitions.specs.Notation.{WithType, ◌⇒◌, ◌~◌, ◌·◌, ◌≐◌, lambda, equality_at}
use Rattle.lt_transport_definitions.specs.Constants.{is_counted, apply, rel_fun, domainp}
use Rattle.lt_transport_definitions.specs.Relations.{Property, Correspondence}
use Rattle.lt_transport_definitions.specs.Answers.{wrong_where, only_where}
use Rattle.lt_transport_definitions.specs.Forms.{constructor_name}
use Rattle.lt_transport_definitions.specs.Sessions.{QuotientEntry, constant_name}
use Rattle.lt_transport_definitions.specs.Commands.{CommandRefusal, because, Addition, Registration, corr_registered, property_registered, domain_registered, rule_registered, quotient_registered}
use Rattle.lt_transport_definitions.specs.Rows.{lemma_of}

-- The entry of a quotient with the label of its theorem: its types, and its four terms, which have
-- the types that a quotient between these gives them.
abbrev pub entry_between : Chars → (raw abs : TypeTree) → (R A B T : TermTree)
    → (of_typedef : Bool) → QuotientEntry
entry_between l raw abs R A B T of_typedef = record {
  con = constructor_name abs;
  label = l;
  abs_type = abs;
  raw_type = raw;
  four = record {
    rel = record { term = R; ty = raw ~ raw };
    abs = record { term = A; ty = raw ⇒ abs };
    rep = record { term = B; ty = abs ⇒ raw };
    corr = record { term = T; ty = raw ~ abs };
  };
  of_typedef = of_typedef;
}

-- The quotient of which a theorem says Quotient R A B T, where the constant counts as such.
abbrev pub as_quotient : Signature → Chars → TermTree → Option QuotientEntry
as_quotient sig l
    (application (application (application (application (constant c (raw ∷ abs ∷ [])) R) A) B) T) =
    only_where (same_name c (codes "Quotient") && is_counted sig c)
    (entry_between l raw abs R A B T false)
as_quotient sig l _ = None

abbrev mutual
  pub constructors_in : TypeTree → List Chars
  constructors_in (type_variable a) = []
  constructors_in (type_constructor c ts) = c ∷ constructors_in_all ts

  pub constructors_in_all : TypeTrees → List Chars
  constructors_in_all no_types = []
  constructors_in_all (type_and t ts) = constructors_in t ++ constructors_in_all ts

-- whether a name stands before another in a list
abbrev pub comes_before : Chars → Chars → List Chars → Bool
comes_before c q [] = false
comes_before c q (x ∷ xs) = not (same_name x q) && (same_name x c || comes_before c q xs)

-- whether each constructor of the raw type was declared before that of the abstract one
abbrev pub is_in_order : Signature → (raw abs : TypeTree) → Bool
is_in_order sig raw abs =
    list_all (λ c. comes_before c (constructor_name abs) (map (λ p. p.0) sig.types))
    (constructors_in raw)

-- the refusal of a raw type that is a variable
abbrev pub bare_test : TypeTree → Option CommandRefusal
bare_test (type_variable a) = Some (because "BareParameter" (type_variable_name a ∷ []))
bare_test (type_constructor c ts) = None

abbrev pub not_quotient : String → CommandRefusal
not_quotient part = because "NotQuotient" (codes part ∷ [])

abbrev pub quotient_test : Bool → String → Option CommandRefusal
quotient_test holds part = wrong_where (not holds) (not_quotient part)

-- \x. R x x
abbrev pub self_related : TypeTree → WithType → WithType
self_related raw R = lambda "x" raw λ x. R · x · x

-- The lemmas of a tail block, given what its domain is.
abbrev pub tail_block : QuotientEntry → WithType → List Addition
tail_block e domain = let T : WithType = e.four.corr in
    lemma_of (e.con ++ codes "_right_total") (apply "right_total" (T ∷ []))
    ∷ lemma_of (e.con ++ codes "_right_unique") (apply "right_unique" (T ∷ []))
    ∷ lemma_of (e.con ++ codes "_rel")
    (rel_fun T (rel_fun T (equality_at bool)) · e.four.rel · equality_at e.abs_type)
    ∷ lemma_of (e.con ++ codes "_domain") (domainp T ≐ domain) ∷ []

-- a property of the correspondence, by a lemma without premises
abbrev pub corr_property : Chars → Property → QuotientEntry → Registration
corr_property l p e =
    property_registered
    (record { label = l; property = p; head = constant_name e.four.corr.term; premises = [] })

-- What a tail block registers.
abbrev pub tail_registrations : QuotientEntry → Correspondence → WithType → List Registration
tail_registrations e d domain =
    corr_registered d
    ∷ quotient_registered e
    ∷ corr_property (e.con ++ codes "_right_total") (codes "right_total") e
    ∷ corr_property (e.con ++ codes "_right_unique") (codes "right_unique") e
    ∷ rule_registered (e.con ++ codes "_rel")
    ∷ domain_registered (record {
      label = e.con ++ codes "_domain";
      head = constant_name e.four.corr.term;
      variables = [];
      type_arguments = term_names e.four.corr.term;
      domain = domain.term;
    }) ∷ []

-- the correspondence that a definition adds
abbrev pub new_corr : QuotientEntry → Correspondence
new_corr e =
    record {
      name = codes "cr_" ++ e.con;
      raw = e.raw_type;
      con = e.con;
      parameters = type_variables e.abs_type;
    }
