-- The words of a call that are accepted.
-- Source: this project's own.
use Rattle.std.specs.Prelude.{ℕ, Bool, List, [], ◌∷◌, Option, Some, None, true, false, codes}
use Rattle.std.specs.Prelude.{if◌then◌else◌, option_map, option_and_then}
use Rattle.std.specs.Str.{bytes_eq}
use Rattle.lt_words.specs.Command.{Given, given}
use Rattle.lt_words.specs.Numbers.{number}
use Rattle.lt_words.specs.declared.mode.Mode.{Mode}
use Rattle.lt_words.specs.declared.mode.Mode.TheVariants.{Run, Check, Laws, Gen}
use Rattle.lt_words.specs.declared.read.Words.{Words}

-- What the words of a call ask for: what is done, whether the summary alone is wanted of it, the
-- limit of a search, and the files that are read for it.
pub record Call : Type 0 where
  pub mode : Mode
  pub summary : Bool
  pub limit : ℕ
  pub files : List (List ℕ)

-- a mode for which one file or more are read
abbrev pub over_files : Mode → List (List ℕ) → Option Mode
over_files mode [] = None
over_files mode (file ∷ files) = Some mode

-- the laws, for which no word follows
abbrev pub without_files : List (List ℕ) → Option Mode
without_files [] = Some Laws
without_files (word ∷ words) = None

-- the generator, for which one word follows: a number of at most 4 digits, from 1 to 1,000
abbrev pub with_size : List (List ℕ) → Option Mode
with_size (size ∷ []) = option_map (λ n. Gen n) (number 4 1000 size)
with_size _ = None

-- what the first word and the others that are no options name
abbrev pub mode_of : List ℕ → List (List ℕ) → Option Mode
mode_of word others =
    if bytes_eq word (codes "run") then over_files Run others
    else (if bytes_eq word (codes "check") then over_files Check others
    else (if bytes_eq word (codes "laws") then without_files others
    else (if bytes_eq word (codes "gen") then with_size others else None)))

-- the files that are read among the words behind a mode
abbrev pub files_of : Mode → List (List ℕ) → List (List ℕ)
files_of Run others = others
files_of Check others = others
files_of Laws others = []
files_of (Gen n) others = []

-- whether a mode reads files
abbrev pub reads_files : Mode → Bool
reads_files Run = true
reads_files Check = true
reads_files Laws = false
reads_files (Gen n) = false

-- the limit: a number of at most 8 digits, from 1 to 10,000,000, and where none is given 100,000
abbrev pub limit_of : Option (List ℕ) → Option ℕ
limit_of None = Some 100000
limit_of (Some word) = number 8 10000000 word

abbrev pub call_with : Given → Mode → ℕ → Call
call_with g mode limit = record {
  mode = mode;
  summary = g.summary;
  limit = limit;
  files = files_of mode g.files;
}

-- the call that is given, where its mode, its files and its numbers are such
abbrev pub call_given : Given → Option Call
call_given g = option_and_then (λ word. option_and_then (λ mode.
    option_map (call_with g mode) (limit_of g.limit)) (mode_of word g.files)) g.mode

-- What the words of a call ask for; none where they aren't accepted.
unfoldable pub call_of : List (List ℕ) → Option Call
call_of words = option_and_then call_given (given words)

-- what is asked for, as the program keeps it
abbrev pub asked : Words → Call
asked w = record { mode = w.mode; summary = w.summary; limit = w.limit; files = w.files.items }
