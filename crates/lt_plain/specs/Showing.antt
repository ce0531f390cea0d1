-- Answered refusals as words.
use Rattle.std.specs.Prelude.{List, [], ◌∷◌, Option, Some, None, codes}
use Rattle.std.specs.Fmt.{decimal}
use Rattle.lt_definitions.specs.Types.{Chars}
use Rattle.lt_definitions.specs.Printing.{printed_type, printed_term, printed_sequent, type_variable_name}
use Rattle.lt_walks.specs.RefusalTexts.{reason_word}
use Rattle.lt_hol.specs.declared.form_part.RelatorPart.{RelatorPart}
use Rattle.lt_hol.specs.declared.form_part.RelatorPart.TheVariants as relators
use Rattle.lt_hol.specs.declared.form_part.PropertyPart.{PropertyPart}
use Rattle.lt_hol.specs.declared.form_part.PropertyPart.TheVariants as properties
use Rattle.lt_hol.specs.declared.form_part.RulePart.{RulePart}
use Rattle.lt_hol.specs.declared.form_part.RulePart.TheVariants as rules
use Rattle.lt_hol.specs.declared.form_part.QuotientPart.{QuotientPart}
use Rattle.lt_hol.specs.declared.form_part.QuotientPart.TheVariants as quotients
use Rattle.lt_hol.specs.declared.property.Property.{Property}
use Rattle.lt_hol.specs.declared.property.Property.TheVariants.{LeftTotal, RightTotal, LeftUnique, RightUnique, BiTotal, BiUnique}
use Rattle.lt_commands.specs.declared.refusal.SequentTerms.{SequentTerms}
use Rattle.lt_commands.specs.declared.refusal.NotParametric.{NotParametric as Unparametric}
use Rattle.lt_commands.specs.declared.refusal.NotParametric.TheVariants.{At, Without}
use Rattle.lt_commands.specs.declared.refusal.Refusal.{Refusal}
use Rattle.lt_commands.specs.declared.refusal.Refusal.TheVariants.{TooLong, BadByte, BadChar, Syntax, BadHeader, BadCommand, Duplicate, UnknownType, Arity, UnknownConst, TypeArgs, Unbound, UnknownLabel, UnknownLaw, LawDiffers, MissingLaw, DuplicateDomain, LooseTypeVar, NotBool, Mismatch, BadLine, NotProved, TypedefShape, RelatorShape, PropertyShape, DuplicateProperty, DomainShape, RuleShape, NotQuotient, BareParameter, NoQuotient, RespectDiffers, NotParametric, HigherOrderArgument, NoRepEquation, NoTransport, ImageDiffers, OpenTerm, TooLarge, SearchLimit, NormLimit, NotBuilt, Memory}

-- the last sequent, if there is one
abbrev pub shown_last : Option SequentTerms → Chars
shown_last None = codes "none"
shown_last (Some s) = printed_sequent (record { hyps = s.hyps; concl = s.concl })

-- the parts of forms
abbrev pub relator_part : RelatorPart → Chars
relator_part relators.Corr = codes "Corr"
relator_part relators.K = codes "K"
relator_part relators.R = codes "R"
relator_part relators.M = codes "M"
relator_part relators.E = codes "E"
relator_part relators.Q = codes "Q"
relator_part relators.O = codes "O"

abbrev pub property_part : PropertyPart → Chars
property_part properties.Prefix = codes "Prefix"
property_part properties.Premise = codes "Premise"
property_part properties.Head = codes "Head"

abbrev pub rule_part : RulePart → Chars
rule_part rules.Prefix = codes "Prefix"
rule_part rules.Head = codes "Head"
rule_part rules.Relation = codes "Relation"
rule_part rules.Types = codes "Types"

abbrev pub quotient_part : QuotientPart → Chars
quotient_part quotients.Shape = codes "shape"
quotient_part quotients.Abstract = codes "abstract"
quotient_part quotients.Relation = codes "relation"
quotient_part quotients.Order = codes "order"

abbrev pub property_word : Property → Chars
property_word LeftTotal = codes "left_total"
property_word RightTotal = codes "right_total"
property_word LeftUnique = codes "left_unique"
property_word RightUnique = codes "right_unique"
property_word BiTotal = codes "bi_total"
property_word BiUnique = codes "bi_unique"

abbrev pub shown_unparametric : Unparametric → Chars
shown_unparametric (At ty) = printed_type ty
shown_unparametric (Without q) = q

-- the refusal's name and its values
abbrev pub shown_words : Refusal → List Chars
shown_words TooLong = codes "TooLong" ∷ []
shown_words BadByte = codes "BadByte" ∷ []
shown_words BadChar = codes "BadChar" ∷ []
shown_words Syntax = codes "Syntax" ∷ []
shown_words BadHeader = codes "BadHeader" ∷ []
shown_words BadCommand = codes "BadCommand" ∷ []
shown_words (Duplicate n) = codes "Duplicate" ∷ n ∷ []
shown_words (UnknownType c) = codes "UnknownType" ∷ c ∷ []
shown_words (Arity c) = codes "Arity" ∷ c ∷ []
shown_words (UnknownConst c) = codes "UnknownConst" ∷ c ∷ []
shown_words (TypeArgs c) = codes "TypeArgs" ∷ c ∷ []
shown_words (Unbound x) = codes "Unbound" ∷ x ∷ []
shown_words (UnknownLabel l) = codes "UnknownLabel" ∷ l ∷ []
shown_words (UnknownLaw w) = codes "UnknownLaw" ∷ w ∷ []
shown_words (LawDiffers w) = codes "LawDiffers" ∷ w ∷ []
shown_words (MissingLaw w) = codes "MissingLaw" ∷ w ∷ []
shown_words (DuplicateDomain h) = codes "DuplicateDomain" ∷ h ∷ []
shown_words (LooseTypeVar a) = codes "LooseTypeVar" ∷ type_variable_name a ∷ []
shown_words (NotBool ty) = codes "NotBool" ∷ printed_type ty ∷ []
shown_words (Mismatch t u) = codes "Mismatch" ∷ printed_type t ∷ printed_type u ∷ []
shown_words (BadLine n r) = codes "BadLine" ∷ decimal n ∷ reason_word r ∷ []
shown_words (NotProved last) = codes "NotProved" ∷ shown_last last ∷ []
shown_words TypedefShape = codes "TypedefShape" ∷ []
shown_words (RelatorShape part) = codes "RelatorShape" ∷ relator_part part ∷ []
shown_words (PropertyShape part) = codes "PropertyShape" ∷ property_part part ∷ []
shown_words (DuplicateProperty p h) = codes "DuplicateProperty" ∷ property_word p ∷ h ∷ []
shown_words DomainShape = codes "DomainShape" ∷ []
shown_words (RuleShape part) = codes "RuleShape" ∷ rule_part part ∷ []
shown_words (NotQuotient part) = codes "NotQuotient" ∷ quotient_part part ∷ []
shown_words (BareParameter ty) = codes "BareParameter" ∷ printed_type ty ∷ []
shown_words (NoQuotient abs raw) = codes "NoQuotient" ∷ printed_type abs ∷ printed_type raw ∷ []
shown_words (RespectDiffers t) = codes "RespectDiffers" ∷ printed_term [] t ∷ []
shown_words (NotParametric what) = codes "NotParametric" ∷ shown_unparametric what ∷ []
shown_words (HigherOrderArgument n) = codes "HigherOrderArgument" ∷ decimal n ∷ []
shown_words (NoRepEquation ty) = codes "NoRepEquation" ∷ printed_type ty ∷ []
shown_words NoTransport = codes "NoTransport" ∷ []
shown_words (ImageDiffers t) = codes "ImageDiffers" ∷ printed_term [] t ∷ []
shown_words OpenTerm = codes "OpenTerm" ∷ []
shown_words (TooLarge n) = codes "TooLarge" ∷ decimal n ∷ []
shown_words (SearchLimit n) = codes "SearchLimit" ∷ decimal n ∷ []
shown_words (NormLimit n) = codes "NormLimit" ∷ decimal n ∷ []
shown_words NotBuilt = codes "NotBuilt" ∷ []
shown_words Memory = codes "Memory" ∷ []
