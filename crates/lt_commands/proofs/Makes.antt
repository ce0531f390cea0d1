-- The notes of each writing make what is written.
use Rattle.std.proofs.Common.{◌≡◌, ◌∙◌, ap, ap₂, sym, refl, subst, List, [], ◌∷◌, ◌++◌, length, take, drop, reverse, Bool, true, false, Some, append_assoc, append-nil}
use Rattle.std.specs.Prelude.{map}
use Rattle.std.specs.List.{list_all}
use Rattle.std.proofs.lemmas.List.{reverse-append, reverse-reverse}
use Rattle.lt_definitions.specs.Types.{Chars, TypeTree, TypeTrees, type_variable, type_constructor, no_types, type_and, listed, row}
use Rattle.lt_definitions.specs.Terms.{TermTree, constant, application}
use Rattle.lt_definitions.proofs.SameNames.{listed-row, both-true}
use Rattle.lt_grammar.specs.declared.words.Part.{Part}
use Rattle.lt_grammar.specs.declared.words.Part.TheVariants.{Label as ALabel, Number as ANumber, Variable as AVariable, Parameters, AType, AStatement, ATerm, Fixed}
use Rattle.lt_grammar.specs.declared.words.RuleWord.{RuleWord}
use Rattle.lt_grammar.specs.declared.words.RuleWord.TheVariants.{Assume, Weaken, Refl, Sym, Trans, Cong, Abs, Beta, Eta, Eqmp, ImpI, Mp, AllI, AllE, Iff, Inst, Tinst, Select, Ccontr, Thm}
use Rattle.lt_grammar.specs.declared.words.ItemWord.{ItemWord}
use Rattle.lt_grammar.specs.declared.words.ItemWord.TheVariants.{TypeItem, Const, Axiom, Def, Typedef}
use Rattle.lt_grammar.specs.declared.words.CommandWord.{CommandWord}
use Rattle.lt_grammar.specs.declared.words.CommandWord.TheVariants.{Law, Corr, Relator, Property, Domain, Rule as ARule, Lifting, LiftingTypedef, QuotientType, Lift, Parametric, ParamRule, Equiv, Implies, Carry, AbsEq, RepEq}
use Rattle.lt_grammar.specs.declared.words.Head.TheVariants.{Lemma, Item as AnItem, Command as ACommand}
use Rattle.lt_texts.specs.Writing.{TermText, word, bound, free, lambda, TermTexts, no_more_terms, more_terms, term_of_text, applied_to}
use Rattle.lt_texts.specs.Writing as writing
use Rattle.lt_grammar.specs.Rows.{Text, Texts, Row}
use Rattle.lt_grammar.specs.Table.{rule_row, item_row, lemma_parts, command_row}
use Rattle.lt_grammar.proofs.RowPieces.{meaning, meanings, meaning-made}
use Rattle.lt_grammar.specs.RowTexts.{row_meaning, LineText, line, rule_of_text, PartText, header, item, lemma, command}
use Rattle.lt_commands.specs.declared.note.Note.{Note}
use Rattle.lt_commands.specs.declared.note.Note.TheVariants.{TypeOpen, TypeClose, KeepType, ConstantName, Arguments, FreeName, FreeClose, LambdaName, LambdaClose, Apply, KeepTerm, Parameter, KeepParameters, BeginLine, EndLine}
use Rattle.lt_commands.specs.Notes.{type_notes, types_notes, later_notes, arguments_notes, term_notes, terms_notes, parameters_notes, part_notes, parts_notes, lines_notes, text_notes, head_of_text, meant_by}
use Rattle.lt_commands.specs.Sinks.{kept_by}
use Rattle.lt_commands.specs.Making.{Made, nothing, closed, with_growing, keep_type, both, pop, pops, applied_if, make_row, with_line, put, put_all, as_item, command_made}

-- ---- types

take-front : (xs ys : List TypeTree) → take (length xs) (xs ++ ys) ≡ xs
take-front [] ys = none ys
  where
    none : (ys : List TypeTree) → take 0 ys ≡ []
    none [] = refl
    none (y ∷ ys) = refl
take-front (x ∷ xs) ys = ap (λ (z : List TypeTree). x ∷ z) (take-front xs ys)

drop-front : (xs ys : List TypeTree) → drop (length xs) (xs ++ ys) ≡ ys
drop-front [] ys = refl
drop-front (x ∷ xs) ys = drop-front xs ys

closed-front : (before args : List TypeTree) (c : Chars) → closed (length before) c (before ++ args) ≡ before ++ type_constructor c (row args) ∷ []
closed-front before args c =
    ap₂ (λ (x y : List TypeTree). x ++ type_constructor c (row y) ∷ []) (take-front before args) (drop-front before args)

row-listed : (ts : TypeTrees) → row (listed ts) ≡ ts
row-listed no_types = refl
row-listed (type_and t ts) = ap (type_and t) (row-listed ts)

abbrev formed : List TypeTree → Made → Made
formed ts m = record m { forming = m.forming ++ ts }

closes : (m : Made) (c : Chars) (ts : List TypeTree) → put TypeClose (formed ts (put (TypeOpen c) m)) ≡ formed (type_constructor c (row ts) ∷ []) m
closes m c ts = λ i. record m { forming = closed-front m.forming ts c i }

more : (m : Made) (t : TypeTree) (ts : List TypeTree) → formed ts (formed (t ∷ []) m) ≡ formed (t ∷ ts) m
more m t ts = λ i. record m { forming = append_assoc m.forming (t ∷ []) ts i }

mutual
  type-makes : (t : TypeTree) (ns : List Note) (m : Made) → put_all (type_notes t ns) m ≡ formed (t ∷ []) (put_all ns m)
  type-makes (type_variable a) ns m = refl
  type-makes (type_constructor c no_types) ns m = refl
  type-makes (type_constructor c (type_and t ts)) ns m =
      ap (put TypeClose) (types-make ts (type_notes t (TypeOpen c ∷ ns)) m ∙ ap (formed (listed ts)) (type-makes t (TypeOpen c ∷ ns) m)
      ∙ more (put_all (TypeOpen c ∷ ns) m) t (listed ts))
      ∙ closes (put_all ns m) c (t ∷ listed ts)
      ∙ ap (λ (z : TypeTrees). formed (type_constructor c (type_and t z) ∷ []) (put_all ns m)) (row-listed ts)

  types-make : (ts : TypeTrees) (ns : List Note) (m : Made) → put_all (types_notes ts ns) m ≡ formed (listed ts) (put_all ns m)
  types-make no_types ns m = let e : (put_all ns m).forming ≡ (put_all ns m).forming ++ [] = sym (append-nil (put_all ns m).forming) in λ i. record (put_all ns m) { forming = e i }
  types-make (type_and t ts) ns m =
      types-make ts (type_notes t ns) m ∙ ap (formed (listed ts)) (type-makes t ns m)
      ∙ (λ i. record (put_all ns m) { forming = append_assoc (put_all ns m).forming (t ∷ []) (listed ts) i })

-- ---- types that are whole

abbrev with_type : TypeTree → Made → Made
with_type t k = record k { types = t ∷ k.types }

kept-by : (t : TypeTree) (k : Made) (f : List TypeTree) → f ≡ [] → keep_type (f ++ t ∷ []) (record k { forming = f ++ t ∷ [] }) ≡ record k { forming = f; types = t ∷ k.types }
kept-by t k [] e = refl
kept-by t k (x ∷ f) e = absurd (cc e)

kept : (t : TypeTree) (k : Made) → k.forming ≡ [] → put KeepType (formed (t ∷ []) k) ≡ with_type t k
kept t k f = kept-by t k k.forming f

abbrev pushed : List TypeTree → List TypeTree → List TypeTree
pushed [] acc = acc
pushed (t ∷ ts) acc = pushed ts (t ∷ acc)

pushed-reverse : (ts acc : List TypeTree) → pushed ts acc ≡ reverse ts ++ acc
pushed-reverse [] acc = refl
pushed-reverse (t ∷ ts) acc =
    pushed-reverse ts (t ∷ acc) ∙ sym (append_assoc (reverse ts) (t ∷ []) acc) ∙ ap (λ (z : List TypeTree). z ++ acc) (sym (reverse-append (t ∷ []) ts))

back-again : (ts : List TypeTree) → reverse (pushed ts []) ≡ ts
back-again ts = ap reverse (pushed-reverse ts [] ∙ append-nil (reverse ts)) ∙ reverse-reverse ts

later : (us : TypeTrees) (ns : List Note) (m k : Made) (t : TypeTree) → k.forming ≡ [] → put_all ns m ≡ formed (t ∷ []) k
    → put KeepType (put_all (later_notes us ns) m) ≡ record k { types = pushed (t ∷ listed us) k.types }
later no_types ns m k t f e = ap (put KeepType) e ∙ kept t k f
later (type_and u us) ns m k t f e =
    later us (type_notes u (KeepType ∷ ns)) m (with_type t k) u f (type-makes u (KeepType ∷ ns) m ∙ ap (formed (u ∷ [])) (ap (put KeepType) e ∙ kept t k f))

-- ---- terms

abbrev with_term : TermTree → Made → Made
with_term t k = with_growing (t ∷ k.terms.growing) k

-- the types before a constant's arguments are there again
again : (c : Chars) (ts : List TypeTree) (k : Made) → with_growing (constant c ts ∷ k.terms.growing) (record k { types = reverse (reverse k.types) }) ≡ with_term (constant c ts) k
again c ts k = λ i. with_growing (constant c ts ∷ k.terms.growing) (record k { types = reverse-reverse k.types i })

arguments-make : (c : Chars) (ts : List TypeTree) (ns : List Note) (m : Made) → (put_all ns m).forming ≡ [] → put_all (arguments_notes ts (ConstantName c ∷ ns)) m ≡ with_term (constant c ts) (put_all ns m)
arguments-make c [] ns m f = again c [] (put_all ns m)
arguments-make c (t ∷ ts) ns m f =
    ap (put Arguments) (later (row ts) (type_notes t (ConstantName c ∷ ns)) m (put (ConstantName c) (put_all ns m)) t f (type-makes t (ConstantName c ∷ ns) m))
    ∙ again c (reverse (pushed (t ∷ listed (row ts)) [])) (put_all ns m)
    ∙ ap (λ (z : List TypeTree). with_term (constant c z) (put_all ns m)) (back-again (t ∷ listed (row ts)) ∙ ap (λ (z : List TypeTree). t ∷ z) (listed-row ts))

-- a whole type behind a note that doesn't touch what is being formed
typed : (ty : TypeTree) (n : Note) (ns : List Note) (m : Made) → (put_all (n ∷ ns) m).forming ≡ [] → put_all (KeepType ∷ type_notes ty (n ∷ ns)) m ≡ with_type ty (put_all (n ∷ ns) m)
typed ty n ns m f = ap (put KeepType) (type-makes ty (n ∷ ns) m) ∙ kept ty (put_all (n ∷ ns) m) f

mutual
  term-makes : (t : TermText) (ns : List Note) (m : Made) → (put_all ns m).forming ≡ [] → put_all (term_notes t ns) m ≡ with_term (term_of_text t) (put_all ns m)
  term-makes (word c ts) ns m f = arguments-make c ts ns m f
  term-makes (bound x) ns m f = refl
  term-makes (free x ty) ns m f = ap (put FreeClose) (typed ty (FreeName x) ns m f)
  term-makes (lambda x ty t) ns m f =
      let e : put_all (KeepType ∷ type_notes ty (LambdaName x ∷ ns)) m ≡ with_type ty (put_all (LambdaName x ∷ ns) m) = typed ty (LambdaName x) ns m f in
      ap (put LambdaClose) (term-makes t (KeepType ∷ type_notes ty (LambdaName x ∷ ns)) m (ap (λ (z : Made). z.forming) e ∙ f) ∙ ap (with_term (term_of_text t)) e)
  term-makes (writing.applied g a more) ns m f =
      let first : put_all (term_notes g ns) m ≡ with_term (term_of_text g) (put_all ns m) = term-makes g ns m f in
      let second : put_all (term_notes a (term_notes g ns)) m ≡ with_term (term_of_text a) (with_term (term_of_text g) (put_all ns m)) =
      term-makes a (term_notes g ns) m (ap (λ (z : Made). z.forming) first ∙ f) ∙ ap (with_term (term_of_text a)) first in
      terms-make more (Apply ∷ term_notes a (term_notes g ns)) m (application (term_of_text g) (term_of_text a)) (put_all ns m) f (ap (put Apply) second)

  terms-make : (more : TermTexts) (ns : List Note) (m : Made) (g : TermTree) (k : Made) → k.forming ≡ [] → put_all ns m ≡ with_term g k
      → put_all (terms_notes more ns) m ≡ with_term (applied_to g more) k
  terms-make no_more_terms ns m g k f e = e
  terms-make (more_terms t more) ns m g k f e =
      terms-make more (Apply ∷ term_notes t ns) m (application g (term_of_text t)) k f
      (ap (put Apply) (term-makes t ns m (ap (λ (z : Made). z.forming) e ∙ f) ∙ ap (with_term (term_of_text t)) e))

-- ---- rows

-- nothing is underway, and lines have begun or not
pub record IsReady (y : Bool) (k : Made) : Type 0 where
  pub forming : k.forming ≡ []
  pub growing : k.terms.growing ≡ []
  pub params : k.params ≡ []
  pub sharing : k.terms.sharing ≡ y

-- the terms of statements stand before the first line, those of lines behind it
abbrev fits : Bool → Part → Bool
fits true AStatement = false
fits false ATerm = false
fits y p = true

abbrev pushed_part : (p : Part) → Text p → Made → Made
pushed_part ALabel a k = record k { labels = a ∷ k.labels }
pushed_part ANumber a k = record k { numbers = a ∷ k.numbers }
pushed_part AVariable a k = record k { labels = a ∷ k.labels }
pushed_part Parameters a k = record k { names = a ∷ k.names }
pushed_part AType a k = record k { types = a ∷ k.types }
pushed_part AStatement a k = record k { terms = record k.terms { wholes = term_of_text a ∷ k.terms.wholes } }
pushed_part ATerm a k = record k { terms = record k.terms { shared = term_of_text a ∷ k.terms.shared } }
pushed_part (Fixed x) a k = k

statement-kept : (t : TermTree) (k : Made) (ts : List TermTree) (y : Bool) → ts ≡ [] → y ≡ false
    → kept_by y (t ∷ ts) (record k.terms { growing = t ∷ ts }) ≡ record k.terms { growing = ts; wholes = t ∷ k.terms.wholes }
statement-kept t k [] false e f = refl
statement-kept t k ts true e f = absurd (cc f)
statement-kept t k (x ∷ ts) y e f = absurd (cc e)

line-kept : (t : TermTree) (k : Made) (ts : List TermTree) (y : Bool) → y ≡ true
    → kept_by y (t ∷ ts) (record k.terms { growing = t ∷ ts }) ≡ record k.terms { growing = ts; shared = t ∷ k.terms.shared }
line-kept t k ts true f = refl
line-kept t k ts false f = absurd (cc f)

abbrev onto : List Chars → List Chars → List Chars
onto [] acc = acc
onto (a ∷ names) acc = onto names (a ∷ acc)

onto-reverse : (names acc : List Chars) → onto names acc ≡ reverse names ++ acc
onto-reverse [] acc = refl
onto-reverse (a ∷ names) acc =
    onto-reverse names (a ∷ acc) ∙ sym (append_assoc (reverse names) (a ∷ []) acc) ∙ ap (λ (z : List Chars). z ++ acc) (sym (reverse-append (a ∷ []) names))

parameters-make : (names : List Chars) (ns : List Note) (m : Made) → put_all (parameters_notes names ns) m ≡ put KeepParameters (record (put_all ns m) { params = onto names (put_all ns m).params })
parameters-make [] ns m = refl
parameters-make (a ∷ names) ns m = parameters-make names (Parameter a ∷ ns) m

no-params : (names : List Chars) (k : Made) (ps : List Chars) → ps ≡ [] → put KeepParameters (record k { params = onto names ps }) ≡ record k { params = ps; names = names ∷ k.names }
no-params names k [] e = λ i. record k { params = []; names = q i ∷ k.names }
  where
    q : reverse (onto names []) ≡ names
    q = ap reverse (onto-reverse names [] ∙ append-nil (reverse names)) ∙ reverse-reverse names
no-params names k (p ∷ ps) e = absurd (cc e)

part-makes : (y : Bool) (p : Part) (a : Text p) (ns : List Note) (m : Made) → fits y p ≡ true → IsReady y (put_all ns m) → put_all (part_notes p a ns) m ≡ pushed_part p a (put_all ns m)
part-makes y ALabel a ns m f r = refl
part-makes y ANumber a ns m f r = refl
part-makes y AVariable a ns m f r = refl
part-makes y Parameters a ns m f r = parameters-make a ns m ∙ no-params a (put_all ns m) (put_all ns m).params r.params
part-makes y AType a ns m f r = ap (put KeepType) (type-makes a ns m) ∙ kept a (put_all ns m) r.forming
part-makes true AStatement a ns m f r = absurd (cc f)
part-makes false AStatement a ns m f r =
    let k : Made = put_all ns m in
    let e = statement-kept (term_of_text a) k k.terms.growing k.terms.sharing r.growing r.sharing in
    ap (put KeepTerm) (term-makes a ns m r.forming) ∙ (λ i. record k { terms = e i })
part-makes true ATerm a ns m f r =
    let k : Made = put_all ns m in
    let e = line-kept (term_of_text a) k k.terms.growing k.terms.sharing r.sharing in
    ap (put KeepTerm) (term-makes a ns m r.forming) ∙ (λ i. record k { terms = e i })
part-makes false ATerm a ns m f r = absurd (cc f)
part-makes y (Fixed x) a ns m f r = refl

still-ready : (y : Bool) (p : Part) (a : Text p) (k : Made) → IsReady y k → IsReady y (pushed_part p a k)
still-ready y ALabel a k r = record { forming = r.forming; growing = r.growing; params = r.params; sharing = r.sharing }
still-ready y ANumber a k r = record { forming = r.forming; growing = r.growing; params = r.params; sharing = r.sharing }
still-ready y AVariable a k r = record { forming = r.forming; growing = r.growing; params = r.params; sharing = r.sharing }
still-ready y Parameters a k r = record { forming = r.forming; growing = r.growing; params = r.params; sharing = r.sharing }
still-ready y AType a k r = record { forming = r.forming; growing = r.growing; params = r.params; sharing = r.sharing }
still-ready y AStatement a k r = record { forming = r.forming; growing = r.growing; params = r.params; sharing = r.sharing }
still-ready y ATerm a k r = record { forming = r.forming; growing = r.growing; params = r.params; sharing = r.sharing }
still-ready y (Fixed x) a k r = r

abbrev pushed_parts : (ps : List Part) → Texts ps → Made → Made
pushed_parts [] ts k = k
pushed_parts (p ∷ ps) ts k = pushed_parts ps ts.1 (pushed_part p ts.0 k)

parts-make : (y : Bool) (ps : List Part) (ts : Texts ps) (ns : List Note) (m : Made) → list_all (fits y) ps ≡ true → IsReady y (put_all ns m)
    → put_all (parts_notes ps ts ns) m ≡ pushed_parts ps ts (put_all ns m)
parts-make y [] ts ns m f r = refl
parts-make y (p ∷ ps) ts ns m f r =
    let both = both-true (fits y p) (list_all (fits y) ps) f in
    let e : put_all (part_notes p ts.0 ns) m ≡ pushed_part p ts.0 (put_all ns m) = part-makes y p ts.0 ns m both.0 r in
    parts-make y ps ts.1 (part_notes p ts.0 ns) m both.1 (subst (IsReady y) (sym e) (still-ready y p ts.0 (put_all ns m) r)) ∙ ap (pushed_parts ps ts.1) e

pop-pushed : (p : Part) (a : Text p) (k : Made) → pop p (pushed_part p a k) ≡ (Some (meaning p a), k)
pop-pushed ALabel a k = refl
pop-pushed ANumber a k = refl
pop-pushed AVariable a k = refl
pop-pushed Parameters a k = refl
pop-pushed AType a k = refl
pop-pushed AStatement a k = refl
pop-pushed ATerm a k = refl
pop-pushed (Fixed x) a k = refl

pops-pushed : (ps : List Part) (ts : Texts ps) (k : Made) → pops ps (pushed_parts ps ts k) ≡ (Some (meanings ps ts), k)
pops-pushed [] ts k = refl
pops-pushed (p ∷ ps) ts k =
    ap (λ r. (both (pop p r.1).0 r.0, (pop p r.1).1)) (pops-pushed ps ts.1 (pushed_part p ts.0 k))
    ∙ ap (λ v. (both v.0 (Some (meanings ps ts.1)), v.1)) (pop-pushed p ts.0 k)

row-makes : {C : Type 0} (r : Row C) (ts : Texts r.parts) (k : Made) → make_row r (pushed_parts r.parts ts k) ≡ (Some (row_meaning r ts), k)
row-makes r ts k =
    ap (λ v. (applied_if r v.0, v.1)) (pops-pushed r.parts ts k)
    ∙ (λ i. (Some (sym (meaning-made r ts) i), k))

-- ---- lines and commands

line-fits : (w : RuleWord) → list_all (fits true) (rule_row w).parts ≡ true
line-fits Assume = refl
line-fits Weaken = refl
line-fits Refl = refl
line-fits Sym = refl
line-fits Trans = refl
line-fits Cong = refl
line-fits Abs = refl
line-fits Beta = refl
line-fits Eta = refl
line-fits Eqmp = refl
line-fits ImpI = refl
line-fits Mp = refl
line-fits AllI = refl
line-fits AllE = refl
line-fits Iff = refl
line-fits Inst = refl
line-fits Tinst = refl
line-fits Select = refl
line-fits Ccontr = refl
line-fits Thm = refl

item-fits : (w : ItemWord) → list_all (fits false) (item_row w).parts ≡ true
item-fits TypeItem = refl
item-fits Const = refl
item-fits Axiom = refl
item-fits Def = refl
item-fits Typedef = refl

further-fits : (w : CommandWord) → list_all (fits false) (command_row w).parts ≡ true
further-fits Law = refl
further-fits Corr = refl
further-fits Relator = refl
further-fits Property = refl
further-fits Domain = refl
further-fits ARule = refl
further-fits Lifting = refl
further-fits LiftingTypedef = refl
further-fits QuotientType = refl
further-fits Lift = refl
further-fits Parametric = refl
further-fits ParamRule = refl
further-fits Equiv = refl
further-fits Implies = refl
further-fits Carry = refl
further-fits AbsEq = refl
further-fits RepEq = refl

-- whether lines have begun behind these
abbrev sharing-behind : List LineText → Bool → Bool
sharing-behind [] y = y
sharing-behind (l ∷ lines) y = true

-- with further lines
abbrev with_lines : List LineText → Made → Made
with_lines lines k =
    record k { terms = record k.terms { lines = k.terms.lines ++ map rule_of_text lines; sharing = sharing-behind lines k.terms.sharing } }

-- where a line begins nothing is underway
begun-line : (k : Made) (w : RuleWord) → k.terms.growing ≡ [] → put (BeginLine w) k ≡ record k { terms = record k.terms { sharing = true } }
begun-line k w e = λ i. record k { terms = record k.terms { growing = sym e i; sharing = true } }

-- lines behind a line are behind it in the end
lines-behind : (k : Made) (l : LineText) (lines : List LineText)
    → with_lines lines (record k { terms = record k.terms { lines = k.terms.lines ++ rule_of_text l ∷ []; sharing = true } }) ≡ with_lines (l ∷ lines) k
lines-behind k l [] = λ i. record k { terms = record k.terms { lines = append-nil (k.terms.lines ++ rule_of_text l ∷ []) i; sharing = true } }
lines-behind k l (n ∷ lines) = λ i. record k { terms = record k.terms { lines = append_assoc k.terms.lines (rule_of_text l ∷ []) (map rule_of_text (n ∷ lines)) i; sharing = true } }

lines-make : (y : Bool) (lines : List LineText) (ns : List Note) (m : Made) → IsReady y (put_all ns m) → put_all (lines_notes lines ns) m ≡ with_lines lines (put_all ns m)
lines-make y [] ns m r =
    let k : Made = put_all ns m in
    λ i. record k { terms = record k.terms { lines = sym (append-nil k.terms.lines) i } }
lines-make y (line w ts ∷ lines) ns m r =
    let k : Made = put_all ns m in
    let j : Made = record k { terms = record k.terms { sharing = true } } in
    let begins : put_all (BeginLine w ∷ ns) m ≡ j = begun-line k w r.growing in
    let ready : IsReady true j = record { forming = r.forming; growing = r.growing; params = r.params; sharing = refl } in
    let parts : put_all (parts_notes (rule_row w).parts ts (BeginLine w ∷ ns)) m ≡ pushed_parts (rule_row w).parts ts j =
    parts-make true (rule_row w).parts ts (BeginLine w ∷ ns) m (line-fits w) (subst (IsReady true) (sym begins) ready) ∙ ap (pushed_parts (rule_row w).parts ts) begins in
    let one : put_all (EndLine w ∷ parts_notes (rule_row w).parts ts (BeginLine w ∷ ns)) m ≡ record j { terms = record j.terms { lines = j.terms.lines ++ rule_of_text (line w ts) ∷ [] } } =
    ap (put (EndLine w)) parts ∙ ap (λ o. with_line o.0 o.1) (row-makes (rule_row w) ts j) in
    lines-make true lines (EndLine w ∷ parts_notes (rule_row w).parts ts (BeginLine w ∷ ns)) m
    (subst (IsReady true) (sym one) (record { forming = r.forming; growing = r.growing; params = r.params; sharing = refl }))
    ∙ ap (with_lines lines) one ∙ lines-behind k (line w ts) lines

ready-nothing : IsReady false nothing
ready-nothing = record { forming = refl; growing = refl; params = refl; sharing = refl }

pub text_makes : (p : PartText) → command_made (head_of_text p) (put_all (text_notes p []) nothing) ≡ meant_by p
text_makes header = refl
text_makes (item w ts) =
    ap (λ (z : Made). command_made (AnItem w) z) (parts-make false (item_row w).parts ts [] nothing (item-fits w) ready-nothing)
    ∙ ap (λ v. as_item v.0) (row-makes (item_row w) ts nothing)
text_makes (lemma l p lines) =
    let parts : put_all (parts_notes lemma_parts (l, (tt, (p, tt))) []) nothing ≡ pushed_parts lemma_parts (l, (tt, (p, tt))) nothing =
    parts-make false lemma_parts (l, (tt, (p, tt))) [] nothing refl ready-nothing in
    ap (command_made Lemma) (lines-make false lines (parts_notes lemma_parts (l, (tt, (p, tt))) []) nothing (subst (IsReady false) (sym parts) (record { forming = refl; growing = refl; params = refl; sharing = refl }))
    ∙ ap (with_lines lines) parts)
text_makes (command w ts) =
    ap (λ (z : Made). command_made (ACommand w) z) (parts-make false (command_row w).parts ts [] nothing (further-fits w) ready-nothing)
    ∙ ap (λ v. v.0) (row-makes (command_row w) ts nothing)

-- ---- types and terms alone

pub type_alone : (t : TypeTree) → (pop AType (put KeepType (put_all (type_notes t []) nothing))).0 ≡ Some t
type_alone t = ap (λ (z : Made). (pop AType (put KeepType z)).0) (type-makes t [] nothing)

pub term_alone : (x : TermText) → (pop AStatement (put KeepTerm (put_all (term_notes x []) nothing))).0 ≡ Some (term_of_text x)
term_alone x = ap (λ (z : Made). (pop AStatement (put KeepTerm z)).0) (term-makes x [] nothing refl)
