-- What a word begins: the header where it is its word, and else a command that may stand.
use Rattle.std.proofs.Common.{◌≡◌, ◌∙◌, ap, sym, refl, Bool, true, false, Option, Some, None}
use Rattle.std.specs.Prelude.{if◌then◌else◌, bytes_eq}
use Rattle.std.proofs.lemmas.Bool.Decides.{same_from_decides}
use Rattle.std.proofs.lemmas.Slice.Eq.{bytes_eq-Decides}
use Rattle.lt_definitions.specs.Types.{Chars, same_name, has_name}
use Rattle.lt_definitions.proofs.SameNames.{name-true, true-name}
use Rattle.lt_texts.specs.Forms.{theory_text}
use Rattle.lt_grammar.specs.declared.words.ItemWord.TheVariants.{TypeItem, Const, Axiom, Def, Typedef}
use Rattle.lt_grammar.specs.declared.words.CommandWord.TheVariants.{Law, Corr, Relator, Property, Domain, Rule, Lifting, LiftingTypedef, QuotientType, Lift, Parametric, ParamRule, Equiv, Implies, Carry, AbsEq, RepEq}
use Rattle.lt_grammar.specs.declared.words.Head.{Head}
use Rattle.lt_grammar.specs.declared.words.Head.TheVariants.{Header, Lemma, Item, Command}
use Rattle.lt_grammar.specs.Words.{find_word, heads, head_word, head_of}
use Rattle.lt_grammar.proofs.Distinct.{found_has, head_found}
use Rattle.lt_script.specs.declared.form.Allowed.{Allowed}
use Rattle.lt_script.specs.declared.form.Allowed.TheVariants.{Items, All}
use Rattle.lt_script.specs.declared.form.Opening.{Opening}
use Rattle.lt_script.specs.Openings.{allowed_words, word_of, form_of, stands_in, kept_in}

-- two tests of names
name-bytes : (x y : Chars) → bytes_eq x y ≡ same_name x y
name-bytes x y = same_from_decides (bytes_eq x y) (same_name x y) (bytes_eq-Decides x y) (name-true x y, true-name x y)

pub header_head : (o : Opening) (a : Allowed) (w : Chars) → bytes_eq w (word_of o) ≡ true → Some Header ≡ head_of (form_of o a) w
header_head o a w e =
    sym (ap (head_of (form_of o a)) ((bytes_eq-Decides w (word_of o)).0 e) ∙ head_found (form_of o a) Header tt)

-- a word may stand where what it begins may
listed : (a : Allowed) (k : Head) → has_name (head_word theory_text k) (allowed_words a) ≡ stands_in a k
listed Items Header = refl
listed Items Lemma = refl
listed Items (Item TypeItem) = refl
listed Items (Item Const) = refl
listed Items (Item Axiom) = refl
listed Items (Item Def) = refl
listed Items (Item Typedef) = refl
listed Items (Command Law) = refl
listed Items (Command Corr) = refl
listed Items (Command Relator) = refl
listed Items (Command Property) = refl
listed Items (Command Domain) = refl
listed Items (Command Rule) = refl
listed Items (Command Lifting) = refl
listed Items (Command LiftingTypedef) = refl
listed Items (Command QuotientType) = refl
listed Items (Command Lift) = refl
listed Items (Command Parametric) = refl
listed Items (Command ParamRule) = refl
listed Items (Command Equiv) = refl
listed Items (Command Implies) = refl
listed Items (Command Carry) = refl
listed Items (Command AbsEq) = refl
listed Items (Command RepEq) = refl
listed All Header = refl
listed All Lemma = refl
listed All (Item TypeItem) = refl
listed All (Item Const) = refl
listed All (Item Axiom) = refl
listed All (Item Def) = refl
listed All (Item Typedef) = refl
listed All (Command Law) = refl
listed All (Command Corr) = refl
listed All (Command Relator) = refl
listed All (Command Property) = refl
listed All (Command Domain) = refl
listed All (Command Rule) = refl
listed All (Command Lifting) = refl
listed All (Command LiftingTypedef) = refl
listed All (Command QuotientType) = refl
listed All (Command Lift) = refl
listed All (Command Parametric) = refl
listed All (Command ParamRule) = refl
listed All (Command Equiv) = refl
listed All (Command Implies) = refl
listed All (Command Carry) = refl
listed All (Command AbsEq) = refl
listed All (Command RepEq) = refl

none-by : (y : Bool) → (let o : Option Head = if y then None else None in o) ≡ None
none-by true = refl
none-by false = refl

kept-by : (a : Allowed) (w : Chars) (o : Option Head) → find_word (head_word theory_text) heads w ≡ o → kept_in a o ≡ (if has_name w (allowed_words a) then o else None)
kept-by a w None e = sym (none-by (has_name w (allowed_words a)))
kept-by a w (Some k) e =
    let word : w ≡ head_word theory_text k = found_has (head_word theory_text) heads w k e in
    ap (λ (y : Bool). let o : Option Head = if y then Some k else None in o) (sym (ap (λ (v : Chars). has_name v (allowed_words a)) word ∙ listed a k))

pub kept_head : (o : Opening) (a : Allowed) (w : Chars) → bytes_eq w (word_of o) ≡ false → kept_in a (find_word (head_word theory_text) heads w) ≡ head_of (form_of o a) w
kept_head o a w e =
    kept-by a w (find_word (head_word theory_text) heads w) refl
    ∙ ap (λ (y : Bool). if y then Some Header else (if has_name w (allowed_words a) then find_word (head_word theory_text) heads w else None)) (sym (sym (name-bytes w (word_of o)) ∙ e))
