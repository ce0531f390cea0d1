-- The walk through a plain text: it is total and one, and accepts the valid plain theories.
use Rattle.std.proofs.Common.{◌≡◌, ◌⊎◌, ◌↔◌, inl, inr, ℕ, zero, suc, ◌<◌, ◌≤◌, List, [], ◌∷◌, ◌++◌, length, map, Option, Some, None, refl, sym, ◌∙◌, ap, subst, arith, append_assoc, append-nil}
use Rattle.std.proofs.lemmas.List.{map-append, append_cancel_left}
use Rattle.lt_definitions.specs.Items.{Item, Context, empty, with_item}
use Rattle.lt_definitions.specs.Extensions.{IsExtension, AreExtensions}
use Rattle.lt_definitions.specs.Theory.{Refusal, refusal, IsPlainTheory}
use Rattle.lt_nameless.proofs.Refusals.{refusal-extension, extension-refusal}
use Rattle.lt_nameless.proofs.LaterItems.{valid_is_extending}
use Rattle.lt_texts.specs.Texts.{Left, left_of}
use Rattle.lt_texts.specs.Commands.{Command, item_command, law_command, corr_command, relator_command, property_command, domain_command, rule_command, lifting_command, lifting_typedef_command, quotient_type_command, lift_command, parametric_command, param_rule_command, equiv_command, implies_command, carry_command, abs_eq_command, rep_eq_command}
use Rattle.lt_texts.specs.Forms.{plain_text, a_command, header_text, IsAllowed, HasCommands, HasPlainItems}
use Rattle.lt_texts.specs.Walks.{plain_limit}
use Rattle.lt_texts.specs.WrongPlaces.{Stands, Begins, NextCommand}
use Rattle.lt_grammar.proofs.FirstWrong.{fault_is_first_wrong, header_is_first_wrong, wrong_no_text}
use Rattle.lt_grammar.proofs.TextLaws.{header_begins, command_goes_on, end_has_commands}
use Rattle.lt_grammar.proofs.Sentences.{one_reading}
use Rattle.lt_grammar.proofs.EachPlace.{Each, each_place, HeaderOr, header_or_fault}
use Rattle.lt_grammar.proofs.Placed.{placed_is_next, next_is_placed}
use Rattle.lt_walks.specs.Walks.{End, accepted, too_long, EndsThere, WalksOn, WalksText, Walks, AreTotal, AreOne}
use Rattle.lt_walks.specs.PlainWalks.{AddsItem, RefusesItem, plain_items, items_in, ChecksText, Checks}
use Rattle.lt_walks.proofs.OneWalk.{one_text, one_walk}
use Rattle.lt_walks.proofs.EachWalk.{command_shorter, each_text, each_walk, ReadsOn, reads_on}

-- ---- what stands in a plain text are items

adds_item : (ctx : Context) (c : Command) (items : List Item) (later : Context) → AddsItem ctx c items later → (i : Item) × (c ≡ item_command i)
adds_item ctx (item_command i) items later h = (i, refl)
adds_item ctx (law_command w l) items later h = absurd h
adds_item ctx (corr_command c) items later h = absurd h
adds_item ctx (relator_command k r m e q o) items later h = absurd h
adds_item ctx (property_command l) items later h = absurd h
adds_item ctx (domain_command l) items later h = absurd h
adds_item ctx (rule_command l) items later h = absurd h
adds_item ctx (lifting_command l) items later h = absurd h
adds_item ctx (lifting_typedef_command q) items later h = absurd h
adds_item ctx (quotient_type_command n ps r l) items later h = absurd h
adds_item ctx (lift_command n ty t l) items later h = absurd h
adds_item ctx (parametric_command q) items later h = absurd h
adds_item ctx (param_rule_command n l m) items later h = absurd h
adds_item ctx (equiv_command n t) items later h = absurd h
adds_item ctx (implies_command n t) items later h = absurd h
adds_item ctx (carry_command n e l) items later h = absurd h
adds_item ctx (abs_eq_command c) items later h = absurd h
adds_item ctx (rep_eq_command c) items later h = absurd h

refuses_item : (ctx : Context) (c : Command) (r : Refusal) → RefusesItem ctx c r → (i : Item) × (c ≡ item_command i)
refuses_item ctx (item_command i) r h = (i, refl)
refuses_item ctx (law_command w l) r h = absurd h
refuses_item ctx (corr_command c) r h = absurd h
refuses_item ctx (relator_command k rel m e q o) r h = absurd h
refuses_item ctx (property_command l) r h = absurd h
refuses_item ctx (domain_command l) r h = absurd h
refuses_item ctx (rule_command l) r h = absurd h
refuses_item ctx (lifting_command l) r h = absurd h
refuses_item ctx (lifting_typedef_command q) r h = absurd h
refuses_item ctx (quotient_type_command n ps rel l) r h = absurd h
refuses_item ctx (lift_command n ty t l) r h = absurd h
refuses_item ctx (parametric_command q) r h = absurd h
refuses_item ctx (param_rule_command n l m) r h = absurd h
refuses_item ctx (equiv_command n t) r h = absurd h
refuses_item ctx (implies_command n t) r h = absurd h
refuses_item ctx (carry_command n e l) r h = absurd h
refuses_item ctx (abs_eq_command c) r h = absurd h
refuses_item ctx (rep_eq_command c) r h = absurd h

pub allowed_item : (c : Command) → IsAllowed plain_text (a_command c) → (i : Item) × (c ≡ item_command i)
allowed_item (item_command i) h = (i, refl)
allowed_item (law_command w l) h = absurd (cc h)
allowed_item (corr_command c) h = absurd (cc h)
allowed_item (relator_command k r m e q o) h = absurd (cc h)
allowed_item (property_command l) h = absurd (cc h)
allowed_item (domain_command l) h = absurd (cc h)
allowed_item (rule_command l) h = absurd (cc h)
allowed_item (lifting_command l) h = absurd (cc h)
allowed_item (lifting_typedef_command q) h = absurd (cc h)
allowed_item (quotient_type_command n ps r l) h = absurd (cc h)
allowed_item (lift_command n ty t l) h = absurd (cc h)
allowed_item (parametric_command q) h = absurd (cc h)
allowed_item (param_rule_command n l m) h = absurd (cc h)
allowed_item (equiv_command n t) h = absurd (cc h)
allowed_item (implies_command n t) h = absurd (cc h)
allowed_item (carry_command n e l) h = absurd (cc h)
allowed_item (abs_eq_command c) h = absurd (cc h)
allowed_item (rep_eq_command c) h = absurd (cc h)

item_or : (ctx : Context) (i : Item) (o : Option Refusal) → refusal ctx i ≡ o
    → ((items : List Item) × (later : Context) × AddsItem ctx (item_command i) items later) ⊎ ((r : Refusal) × RefusesItem ctx (item_command i) r)
item_or ctx i None e = inl (i ∷ [], with_item ctx i, (refusal-extension ctx i e, refl, refl))
item_or ctx i (Some r) e = inr (r, e)

pub plain_total : AreTotal plain_items
plain_total ctx c h =
    let i = allowed_item c h in
    subst (λ (d : Command). ((items : List Item) × (later : Context) × AddsItem ctx d items later) ⊎ ((r : Refusal) × RefusesItem ctx d r)) (sym i.1) (item_or ctx i.0 (refusal ctx i.0) refl)

item_adds : (ctx : Context) (i : Item) (xs ys : List Item) (a b : Context) → AddsItem ctx (item_command i) xs a → AddsItem ctx (item_command i) ys b → (xs ≡ ys) × (a ≡ b)
item_adds ctx i xs ys a b (h, p, q) (k, r, t) = (p ∙ sym r, q ∙ sym t)

item_refuses : (ctx : Context) (i : Item) (r q : Refusal) → RefusesItem ctx (item_command i) r → RefusesItem ctx (item_command i) q → r ≡ q
item_refuses ctx i r q h k = let same : Some r ≡ Some q = sym h ∙ k in cc same

item_apart : (ctx : Context) (i : Item) (xs : List Item) (a : Context) (r : Refusal) → AddsItem ctx (item_command i) xs a → RefusesItem ctx (item_command i) r → ⊥
item_apart ctx i xs a r (h, p, q) k = let no : None ≡ Some r = sym (extension-refusal ctx i h) ∙ k in absurd (cc no)

pub plain_one : AreOne plain_items
plain_one = record {
  adds = λ ctx c xs ys a b h k. let i = adds_item ctx c xs a h in
      item_adds ctx i.0 xs ys a b (subst (λ (d : Command). AddsItem ctx d xs a) i.1 h) (subst (λ (d : Command). AddsItem ctx d ys b) i.1 k);
  refuses = λ ctx c r q h k. let i = refuses_item ctx c r h in
      item_refuses ctx i.0 r q (subst (λ (d : Command). RefusesItem ctx d r) i.1 h) (subst (λ (d : Command). RefusesItem ctx d q) i.1 k);
  apart = λ ctx c xs a r h k. let i = adds_item ctx c xs a h in
      item_apart ctx i.0 xs a r (subst (λ (d : Command). AddsItem ctx d xs a) i.1 h) (subst (λ (d : Command). RefusesItem ctx d r) i.1 k);
}

-- ---- what is accepted is valid

accepts : (ctx : Context) (at : Left) (blocks : List (List Item)) (e : End Refusal) → WalksOn plain_items ctx at blocks e → AreExtensions ctx (items_in blocks)
accepts ctx at [] e h = tt
accepts ctx at (xs ∷ blocks) e (c, from, lines, to, b, n, later, a, w) =
    let i = adds_item ctx c xs later a in
    accepts_item ctx i.0 xs later b blocks e (subst (λ (d : Command). AddsItem ctx d xs later) i.1 a) (accepts later b blocks e w)
  where
    accepts_item : (ctx : Context) (i : Item) (xs : List Item) (later : Context) (b : Left) (blocks : List (List Item)) (e : End Refusal) → AddsItem ctx (item_command i) xs later
        → AreExtensions later (items_in blocks) → AreExtensions ctx (xs ++ items_in blocks)
    accepts_item ctx i xs later b blocks e (h, p, q) k =
        subst (λ (ys : List Item). AreExtensions ctx (ys ++ items_in blocks)) (sym p) (h, subst (λ (later : Context). AreExtensions later (items_in blocks)) q k)

walks_accept : (text : List ℕ) (blocks : List (List Item)) (e : End Refusal) → WalksText plain_items text blocks e → AreExtensions empty (items_in blocks)
unfolding WalksText
walks_accept text blocks e (inl (f, h, p, q)) = subst (λ (bs : List (List Item)). AreExtensions empty (items_in bs)) (sym p) tt
walks_accept text blocks e (inr (at, m, w)) = accepts empty at blocks e w

pub texts_accept : (text : List ℕ) (items : List Item) (e : End Refusal) → ChecksText text items e → IsPlainTheory items
unfolding ChecksText
texts_accept text items e (blocks, w, p) = (valid_is_extending empty items).1 (subst (AreExtensions empty) (sym p) (walks_accept text blocks e w))

-- what is within the limit goes as it would without one
pub check_parts : (text : List ℕ) (items : List Item) (e : End Refusal) → Checks text items e
    → ((plain_limit < length text) × (items ≡ []) × (e ≡ too_long)) ⊎ ((length text ≤ plain_limit) × ChecksText text items e)
unfolding Checks ChecksText Walks
check_parts text items e (blocks, inl (l, p, q), r) = inl (l, r ∙ ap items_in p, q)
check_parts text items e (blocks, inr (l, w), r) = inr (l, (blocks, w, r))

pub check_within : (text : List ℕ) (items : List Item) (e : End Refusal) → length text ≤ plain_limit → ChecksText text items e → Checks text items e
unfolding Checks ChecksText Walks
check_within text items e l (blocks, w, r) = (blocks, inr (l, w), r)

pub check_too_long : (text : List ℕ) → plain_limit < length text → Checks text [] too_long
unfolding Checks Walks
check_too_long text l = ([], inl (l, refl, refl), refl)

accepts_by : (text : List ℕ) (items : List Item) (e : End Refusal)
    → ((plain_limit < length text) × (items ≡ []) × (e ≡ too_long)) ⊎ ((length text ≤ plain_limit) × ChecksText text items e) → IsPlainTheory items
accepts_by text items e (inl (l, p, q)) = subst IsPlainTheory (sym p) tt
accepts_by text items e (inr (l, w)) = texts_accept text items e w

pub checks_accept : (text : List ℕ) (items : List Item) (e : End Refusal) → Checks text items e → IsPlainTheory items
checks_accept text items e w = accepts_by text items e (check_parts text items e w)

-- ---- each text has a walk, and one

pub each_text_check : (text : List ℕ) → (items : List Item) × (end : End Refusal) × ChecksText text items end
unfolding ChecksText
each_text_check text = let w = each_text plain_items plain_total text in (items_in w.0, w.1, (w.0, w.2, refl))

pub one_text_check : (text : List ℕ) (items others : List Item) (e d : End Refusal) → ChecksText text items e → ChecksText text others d → (items ≡ others) × (e ≡ d)
unfolding ChecksText
one_text_check text items others e d (xs, w, p) (ys, v, q) = let same = one_text plain_items plain_one text xs ys e d w v in (p ∙ ap items_in same.0 ∙ sym q, same.1)

pub each_check : (text : List ℕ) → (items : List Item) × (end : End Refusal) × Checks text items end
unfolding Checks
each_check text = let w = each_walk plain_items plain_total text in (items_in w.0, w.1, (w.0, w.2, refl))

pub one_check : (text : List ℕ) (items others : List Item) (e d : End Refusal) → Checks text items e → Checks text others d → (items ≡ others) × (e ≡ d)
unfolding Checks
one_check text items others e d (xs, w, p) (ys, v, q) = let same = one_walk plain_items plain_one text xs ys e d w v in (p ∙ ap items_in same.0 ∙ sym q, same.1)

-- ---- where all is accepted, the text is that of the items

ends_accepted : (text : List ℕ) (done : List Item) (ctx : Context) (at : Left) → Begins plain_text text (map item_command done) at → EndsThere plain_items ctx at accepted
    → HasCommands plain_text text (map item_command (done ++ []))
ends_accepted text done ctx at b (inl (k, p)) =
    subst (λ (xs : List Item). HasCommands plain_text text (map item_command xs)) (sym (append-nil done)) (end_has_commands plain_text text (map item_command done) at b k)
ends_accepted text done ctx at b (inr (inl (f, k, p))) = absurd (cc p)
ends_accepted text done ctx at b (inr (inr (c, from, lines, to, z, n, r, m, p))) = absurd (cc p)

one_further : (done : List Item) (c : Command) (i : Item) → c ≡ item_command i → map item_command done ++ c ∷ [] ≡ map item_command (done ++ i ∷ [])
one_further done c i e = ap (λ (d : Command). map item_command done ++ d ∷ []) e ∙ sym (map-append item_command done (i ∷ []))

read_on : (text : List ℕ) (done : List Item) (ctx : Context) (at : Left) (blocks : List (List Item)) → Begins plain_text text (map item_command done) at → WalksOn plain_items ctx at blocks accepted
    → HasCommands plain_text text (map item_command (done ++ items_in blocks))
read_on text done ctx at [] b h = ends_accepted text done ctx at b h
read_on text done ctx at (xs ∷ blocks) b (c, from, lines, to, z, n, later, a, w) =
    let i = adds_item ctx c xs later a in
    let only : xs ≡ i.0 ∷ [] = (subst (λ (d : Command). AddsItem ctx d xs later) i.1 a).1 in
    let next : Begins plain_text text (map item_command (done ++ i.0 ∷ [])) z =
    subst (λ (cs : List Command). Begins plain_text text cs z) (one_further done c i.0 i.1)
    (command_goes_on plain_text text (map item_command done) at z c b (placed_is_next plain_text at c from lines to z n)) in
    subst (λ (ys : List Item). HasCommands plain_text text (map item_command ys)) (append_assoc done (i.0 ∷ []) (items_in blocks) ∙ ap (λ (ys : List Item). done ++ (ys ++ items_in blocks)) (sym only))
    (read_on text (done ++ i.0 ∷ []) later z blocks next w)

accepted_walk : (text : List ℕ) (blocks : List (List Item)) → WalksText plain_items text blocks accepted → HasPlainItems text (items_in blocks)
unfolding WalksText
accepted_walk text blocks (inl (f, h, p, q)) = absurd (cc q)
accepted_walk text blocks (inr (at, m, w)) = read_on text [] empty at blocks (header_begins plain_text text at m) w

pub accepted_text : (text : List ℕ) (items : List Item) → ChecksText text items accepted → HasPlainItems text items
unfolding ChecksText
accepted_text text items (blocks, w, p) = subst (HasPlainItems text) (sym p) (accepted_walk text blocks w)

-- ---- and a valid plain theory is accepted

IsWalked : Context → Left → List Item → Type 0
IsWalked ctx at items = (blocks : List (List Item)) × WalksOn plain_items ctx at blocks accepted × (items_in blocks ≡ items)

none_left : (done rest : List Item) → map item_command done ≡ map item_command (done ++ rest) → rest ≡ []
none_left done [] e = refl
none_left done (i ∷ rest) e =
    let no : [] ≡ item_command i ∷ map item_command rest =
    append_cancel_left (map item_command done) [] (item_command i ∷ map item_command rest) (append-nil (map item_command done) ∙ e ∙ map-append item_command done (i ∷ rest)) in absurd (cc no)

next_item : (rest : List Item) (c : Command) (more : List Command) → map item_command rest ≡ c ∷ more → (i : Item) × (later : List Item) × (rest ≡ i ∷ later) × (c ≡ item_command i)
next_item [] c more e = absurd (cc e)
next_item (i ∷ rest) c more e = let same : item_command i ≡ c = cc e in (i, rest, refl, sym same)

-- the command at the place is the next item
record IsNextItem (ctx : Context) (rest : List Item) (c : Command) : Type 0 where
  item : Item
  later : List Item
  is : rest ≡ item ∷ later
  command : c ≡ item_command item
  extends : IsExtension ctx item
  more : AreExtensions (with_item ctx item) later

next_extension : (ctx : Context) (rest : List Item) (c : Command) (more : List Command) → map item_command rest ≡ c ∷ more → AreExtensions ctx rest → IsNextItem ctx rest c
next_extension ctx [] c more e v = absurd (cc e)
next_extension ctx (i ∷ rest) c more e v = let same : item_command i ≡ c = cc e in record { item = i; later = rest; is = refl; command = sym same; extends = v.0; more = v.1 }

what_is_next : (text : List ℕ) (done rest : List Item) (ctx : Context) (c : Command) → HasCommands plain_text text (map item_command (done ++ rest)) → AreExtensions ctx rest
    → ReadsOn plain_text text (map item_command done ++ c ∷ []) → IsNextItem ctx rest c
what_is_next text done rest ctx c k v (inr (e, w)) = absurd (wrong_no_text plain_text text e (map item_command (done ++ rest)) w k)
what_is_next text done rest ctx c k v (inl (more, full)) =
    let all : map item_command (done ++ rest) ≡ (map item_command done ++ c ∷ []) ++ more =
    one_reading plain_text text (map item_command (done ++ rest)) ((map item_command done ++ c ∷ []) ++ more) k full in
    let tail : map item_command rest ≡ c ∷ more = append_cancel_left (map item_command done) (map item_command rest) (c ∷ more)
    (sym (map-append item_command done rest) ∙ all ∙ append_assoc (map item_command done) (c ∷ []) more) in
    next_extension ctx rest c more tail v

Goes : List ℕ → Left → Type 0
Goes text at = (done rest : List Item) (ctx : Context) (z : Left) → length z.ahead < length at.ahead → Begins plain_text text (map item_command done) z
    → HasCommands plain_text text (map item_command (done ++ rest)) → AreExtensions ctx rest → IsWalked ctx z rest

accept_item : (text : List ℕ) (done rest : List Item) (ctx : Context) (at : Left) (c : Command) (z : Left) → Begins plain_text text (map item_command done) at → NextCommand plain_text at c z
    → HasCommands plain_text text (map item_command (done ++ rest)) → IsNextItem ctx rest c → Goes text at → IsWalked ctx at rest
unfolding Goes IsWalked
accept_item text done rest ctx at c z b m k x go =
    let p = next_is_placed plain_text at c z m in
    let begun : Begins plain_text text (map item_command (done ++ x.item ∷ [])) z =
    subst (λ (cs : List Command). Begins plain_text text cs z) (one_further done c x.item x.command) (command_goes_on plain_text text (map item_command done) at z c b m) in
    let whole : HasCommands plain_text text (map item_command ((done ++ x.item ∷ []) ++ x.later)) =
    subst (λ (xs : List Item). HasCommands plain_text text (map item_command xs)) (ap (λ (xs : List Item). done ++ xs) x.is ∙ sym (append_assoc done (x.item ∷ []) x.later)) k in
    let w = go (done ++ x.item ∷ []) x.later (with_item ctx x.item) z (command_shorter plain_text at c z m) begun whole x.more in
    let adds : AddsItem ctx c (x.item ∷ []) (with_item ctx x.item) =
    subst (λ (d : Command). AddsItem ctx d (x.item ∷ []) (with_item ctx x.item)) (sym x.command) (x.extends, refl, refl) in
    ((x.item ∷ []) ∷ w.0, (c, p.0, p.1, p.2, z, p.3, with_item ctx x.item, adds, w.1), ap (λ (xs : List Item). x.item ∷ xs) w.2 ∙ sym x.is)

accept_next : (text : List ℕ) (done rest : List Item) (ctx : Context) (at : Left) → Begins plain_text text (map item_command done) at → HasCommands plain_text text (map item_command (done ++ rest))
    → AreExtensions ctx rest → Each plain_text at → Goes text at → IsWalked ctx at rest
unfolding IsWalked
accept_next text done rest ctx at b k v (inl (c, z, m)) go =
    accept_item text done rest ctx at c z b m k
    (what_is_next text done rest ctx c k v (reads_on plain_text text (map item_command done ++ c ∷ []) z (command_goes_on plain_text text (map item_command done) at z c b m))) go
accept_next text done rest ctx at b k v (inr (inl m)) go =
    ([], inl (m, refl), sym (none_left done rest (one_reading plain_text text (map item_command done) (map item_command (done ++ rest)) (end_has_commands plain_text text (map item_command done) at b m) k)))
accept_next text done rest ctx at b k v (inr (inr (e, m))) go =
    absurd (wrong_no_text plain_text text e (map item_command (done ++ rest)) (fault_is_first_wrong plain_text text (map item_command done) at e b m) k)

accept_by : (n : ℕ) (text : List ℕ) (done rest : List Item) (ctx : Context) (at : Left) → length at.ahead < n → Begins plain_text text (map item_command done) at
    → HasCommands plain_text text (map item_command (done ++ rest)) → AreExtensions ctx rest → IsWalked ctx at rest
unfolding Goes
accept_by zero text done rest ctx at h b k v = absurd (omega (arith, h))
accept_by (suc n) text done rest ctx at h b k v =
    accept_next text done rest ctx at b k v (each_place plain_text at) (λ ds later after z l c m x. accept_by n text ds later after z (omega (arith, h, l)) c m x)

header_first : (text : List ℕ) (items : List Item) → HasPlainItems text items → HeaderOr plain_text (left_of text) → (at : Left) × Stands (left_of text) (header_text plain_text) at
header_first text items k (inl h) = h
header_first text items k (inr (e, h)) = absurd (wrong_no_text plain_text text e (map item_command items) (header_is_first_wrong plain_text text e h) k)

valid_walk : (text : List ℕ) (items : List Item) → HasPlainItems text items → AreExtensions empty items
    → (blocks : List (List Item)) × WalksText plain_items text blocks accepted × (items_in blocks ≡ items)
unfolding WalksText IsWalked
valid_walk text items k v =
    let h = header_first text items k (header_or_fault plain_text (left_of text)) in
    let w = accept_by (suc (length h.0.ahead)) text [] items empty h.0 (omega arith) (header_begins plain_text text h.0 h.1) k v in
    (w.0, inr (h.0, h.1, w.1), w.2)

pub valid_text : (text : List ℕ) (items : List Item) → HasPlainItems text items → IsPlainTheory items → ChecksText text items accepted
unfolding ChecksText
valid_text text items k v = let w = valid_walk text items k ((valid_is_extending empty items).0 v) in (w.0, w.1, sym w.2)

pub text_exactly : (text : List ℕ) (items : List Item) → ChecksText text items accepted ↔ (HasPlainItems text items × IsPlainTheory items)
text_exactly text items = (λ w. (accepted_text text items w, texts_accept text items accepted w), λ h. valid_text text items h.0 h.1)

accepted_within : (text : List ℕ) (items : List Item) (e : End Refusal) → e ≡ accepted
    → ((plain_limit < length text) × (items ≡ []) × (e ≡ too_long)) ⊎ ((length text ≤ plain_limit) × ChecksText text items e)
    → (length text ≤ plain_limit) × HasPlainItems text items × IsPlainTheory items
accepted_within text items e same (inl (l, p, q)) = absurd (cc (same, q))
accepted_within text items e same (inr (l, w)) = (l, accepted_text text items (subst (ChecksText text items) same w), texts_accept text items e w)

pub accepted_exactly : (text : List ℕ) (items : List Item) → Checks text items accepted ↔ ((length text ≤ plain_limit) × HasPlainItems text items × IsPlainTheory items)
accepted_exactly text items =
    (λ w. accepted_within text items accepted refl (check_parts text items accepted w), λ h. check_within text items accepted h.0 (valid_text text items h.1 h.2))
