-- The four terms of a quotient, and the quotients along a function's type.
-- Source: the quotient theorems of functions, of relators and of composition as in Huffman and
-- Kunčar.
use Rattle.std.specs.Prelude.{List, [], ◌∷◌, if◌then◌else◌, map, codes, unwrap_or, option_map}
use Rattle.lt_definitions.specs.Types.{Chars, same_name, TypeTree, TypeMap, type_instance}
use Rattle.lt_definitions.specs.Terms.{term_instance}
use Rattle.lt_transport_definitions.specs.Notation.{WithType, domain_type, equality_at}
use Rattle.lt_transport_definitions.specs.Constants.{table_constant, apply, relcompp, map_fun}
use Rattle.lt_transport_definitions.specs.Relations.{Registry, relator_of, relator_for}
use Rattle.lt_transport_definitions.specs.RelatorForm.{relator_term, mapping_term}
use Rattle.lt_transport_definitions.specs.Sessions.{Four, QuotientEntry}
use Rattle.lt_transport_definitions.specs.Quotients.{entry_map, Quot, Quots, identity_quotient, relator_quotient, registered_quotient, composed_quotient, no_quotient_between, no_quots, quot_and}

-- a term with its type, with types put for type variables
abbrev pub instance_with_type : TypeMap → WithType → WithType
instance_with_type m t = record { term = term_instance m t.term; ty = type_instance m t.ty }

abbrev pub four_at : QuotientEntry → List TypeTree → Four
four_at e ts = let m : TypeMap = entry_map e ts in record {
  rel = instance_with_type m e.four.rel;
  abs = instance_with_type m e.four.abs;
  rep = instance_with_type m e.four.rep;
  corr = instance_with_type m e.four.corr;
}

-- the abstract type of a quotient
abbrev pub abs_type_of : Four → TypeTree
abs_type_of q = domain_type q.rep.ty

abbrev pub identity_four : TypeTree → Four
identity_four t =
    record {
      rel = equality_at t;
      abs = table_constant "id" (t ∷ []);
      rep = table_constant "id" (t ∷ []);
      corr = equality_at t;
    }

-- the constant that maps of a constructor's relator
abbrev pub mapping_of : Registry → Chars → Chars
mapping_of G K = unwrap_or (option_map (λ r. r.mapping) (relator_of G K)) []

abbrev pub by_relator : Registry → Chars → List WithType → WithType
by_relator G K rs = relator_term K (unwrap_or (relator_for G K) []) rs

-- a constructor's mapping over functions there, given those back: that of fun takes its first
-- argument's function back
abbrev pub by_mapping : Registry → Chars → (there back : List WithType) → WithType
by_mapping G K (f ∷ g ∷ []) (f' ∷ _) =
    if same_name K (codes "fun") then map_fun f' g else mapping_term K (mapping_of G K) (f ∷ g ∷ [])
by_mapping G K fs _ = mapping_term K (mapping_of G K) fs

-- over quotients of arguments, that of a constructor with a relator
abbrev pub relator_four : Registry → Chars → List Four → Four
relator_four G K qs =
    let there : List WithType = map (λ q. q.abs) qs in
    let back : List WithType = map (λ q. q.rep) qs in
    record {
      rel = by_relator G K (map (λ q. q.rel) qs);
      abs = by_mapping G K there back;
      rep = by_mapping G K back there;
      corr = by_relator G K (map (λ q. q.corr) qs);
    }

abbrev pub composed_four : Four → Four → Four
composed_four q r = record {
  rel = relcompp q.corr (relcompp r.rel (apply "conversep" (q.corr ∷ [])));
  abs = apply "comp" (r.abs ∷ q.abs ∷ []);
  rep = apply "comp" (q.rep ∷ r.rep ∷ []);
  corr = relcompp q.corr r.corr;
}

abbrev mutual
  pub four_of : Registry → Quot → Four
  four_of G (identity_quotient t) = identity_four t
  four_of G (relator_quotient K qs) = relator_four G K (fours_of G qs)
  four_of G (registered_quotient e ts) = four_at e ts
  four_of G (composed_quotient q e ts) = composed_four (four_of G q) (four_at e ts)
  four_of G (no_quotient_between abs raw) = identity_four abs

  pub fours_of : Registry → Quots → List Four
  fours_of G no_quots = []
  fours_of G (quot_and q qs) = four_of G q ∷ fours_of G qs

-- the quotients of the arguments, as long as there are function cases along the result
abbrev pub argument_quotients : Quot → List Quot
argument_quotients (relator_quotient K (quot_and q (quot_and r no_quots))) =
    if same_name K (codes "fun") then q ∷ argument_quotients r else []
argument_quotients q = []

-- the quotient of the result behind them
abbrev pub result_quotient : Quot → Quot
result_quotient (relator_quotient K (quot_and q (quot_and r no_quots))) =
    if same_name K (codes "fun") then result_quotient r
    else relator_quotient K (quot_and q (quot_and r no_quots))
result_quotient q = q
