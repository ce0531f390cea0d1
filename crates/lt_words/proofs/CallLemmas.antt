-- What is known of a call that is accepted.
use Rattle.std.proofs.Common.{◌≡◌, ℕ, ◌<◌, Bool, true, false, List, [], ◌∷◌, length, Option, Some, None, refl, sym, ◌∙◌, subst, arith, codes}
use Rattle.std.specs.Prelude.{if◌then◌else◌, option_map, option_and_then}
use Rattle.std.specs.Str.{bytes_eq}
use Rattle.lt_words.specs.declared.mode.Mode.{Mode}
use Rattle.lt_words.specs.declared.mode.Mode.TheVariants.{Run, Check, Laws, Gen}
use Rattle.lt_words.specs.Command.{Given, given}
use Rattle.lt_words.specs.Numbers.{number}
use Rattle.lt_words.specs.Calls.{Call, call_of, call_given, call_with, mode_of, over_files, without_files, with_size, files_of, limit_of, reads_files}

-- The mode is one over files that are there, or it reads none.
data Stands (others : List (List ℕ)) (mode : Mode) : Type 0 where
  over : 0 < length others → files_of mode others ≡ others → Stands others mode
  reads_none : reads_files mode ≡ false → Stands others mode

over-stands : (m : Mode) (others : List (List ℕ)) (mode : Mode) → files_of m others ≡ others → over_files m others ≡ Some mode → Stands others mode
over-stands m [] mode f e = absurd (cc e)
over-stands m (x ∷ xs) mode f e = let same : m ≡ mode = cc e in over (omega arith) (subst (λ (k : Mode). files_of k (x ∷ xs) ≡ x ∷ xs) same f)

laws-stand : (others : List (List ℕ)) (mode : Mode) → without_files others ≡ Some mode → Stands others mode
laws-stand [] mode e = let same : Laws ≡ mode = cc e in reads_none (subst (λ (k : Mode). reads_files k ≡ false) same refl)
laws-stand (x ∷ xs) mode e = absurd (cc e)

sized : (others : List (List ℕ)) (n : Option ℕ) (mode : Mode) → option_map (λ n. Gen n) n ≡ Some mode → Stands others mode
sized others None mode e = absurd (cc e)
sized others (Some n) mode e = let same : Gen n ≡ mode = cc e in reads_none (subst (λ (k : Mode). reads_files k ≡ false) same refl)

size-stands : (others : List (List ℕ)) (mode : Mode) → with_size others ≡ Some mode → Stands others mode
size-stands [] mode e = absurd (cc e)
size-stands (x ∷ []) mode e = sized (x ∷ []) (number 4 1000 x) mode e
size-stands (x ∷ y ∷ xs) mode e = absurd (cc e)

either : (b : Bool) (x y : Option Mode) (others : List (List ℕ)) (mode : Mode) → (x ≡ Some mode → Stands others mode) → (y ≡ Some mode → Stands others mode) → (if b then x else y) ≡ Some mode → Stands others mode
either true x y others mode p q e = p e
either false x y others mode p q e = q e

none-stands : (others : List (List ℕ)) (mode : Mode) → None ≡ Some mode → Stands others mode
none-stands others mode e = absurd (cc e)

mode-stands : (word : List ℕ) (others : List (List ℕ)) (mode : Mode) → mode_of word others ≡ Some mode → Stands others mode
mode-stands word others mode e =
    either (bytes_eq word (codes "run")) _ _ others mode (over-stands Run others mode refl)
    (either (bytes_eq word (codes "check")) _ _ others mode (over-stands Check others mode refl)
    (either (bytes_eq word (codes "laws")) _ _ others mode (laws-stand others mode)
    (either (bytes_eq word (codes "gen")) _ _ others mode (size-stands others mode) (none-stands others mode)))) e

-- a call over files has some
has-files : (others : List (List ℕ)) (mode : Mode) → Stands others mode → reads_files mode ≡ true → 0 < length (files_of mode others)
has-files others mode (over some same) r = subst (λ (xs : List (List ℕ)). 0 < length xs) (sym same) some
has-files others mode (reads_none none) r = absurd (cc (sym none ∙ r))

with-limit : (g : Given) (mode : Mode) (limit : Option ℕ) (call : Call) → option_map (call_with g mode) limit ≡ Some call → Stands g.files mode → reads_files call.mode ≡ true → 0 < length call.files
with-limit g mode None call e s r = absurd (cc e)
with-limit g mode (Some n) call e s r =
    let same : call_with g mode n ≡ call = cc e in
    subst (λ (c : Call). 0 < length c.files) same (has-files g.files mode s (subst (λ (c : Call). reads_files c.mode ≡ true) (sym same) r))

with-mode : (g : Given) (found : Option Mode) (call : Call) → ((mode : Mode) → found ≡ Some mode → Stands g.files mode)
    → option_and_then (λ mode. option_map (call_with g mode) (limit_of g.limit)) found ≡ Some call → reads_files call.mode ≡ true → 0 < length call.files
with-mode g None call stands e r = absurd (cc e)
with-mode g (Some mode) call stands e r = with-limit g mode (limit_of g.limit) call e (stands mode refl) r

with-word : (g : Given) (word : Option (List ℕ)) (call : Call)
    → option_and_then (λ w. option_and_then (λ mode. option_map (call_with g mode) (limit_of g.limit)) (mode_of w g.files)) word ≡ Some call → reads_files call.mode ≡ true → 0 < length call.files
with-word g None call e r = absurd (cc e)
with-word g (Some w) call e r = with-mode g (mode_of w g.files) call (mode-stands w g.files) e r

some-files : (read : Option Given) (call : Call) → option_and_then call_given read ≡ Some call → reads_files call.mode ≡ true → 0 < length call.files
some-files None call e r = absurd (cc e)
some-files (Some g) call e r = with-word g g.mode call e r

-- A call that reads files has one at least.
pub files_are_there : (words : List (List ℕ)) (call : Call) → call_of words ≡ Some call → reads_files call.mode ≡ true → 0 < length call.files
unfolding call_of
files_are_there words call e r = some-files (given words) call e r
