-- The line on a refusal, by its parts.
use Rattle.std.proofs.Common.{◌≡◌, ◌⊎◌, inl, inr, ℕ, ◌+◌, ◌-◌, ◌<◌, ◌≤◌, true, false, List, [], ◌∷◌, ◌++◌, length, map, slice_get, Option, Some, Result, Ok, Err, refl, sym, ◌∙◌, ap, arith, codes}
use Rattle.std.specs.Prelude.{encode_utf8_all, nat_le, IfOk}
use Rattle.std.specs.Fmt.{decimal}
use Rattle.std.proofs.lemmas.Bool.Decides.{leb_tells}
use Rattle.lt_definitions.specs.Types.{Chars}
use Rattle.lt_definitions.specs.Theory.{Refusal}
use Rattle.lt_definitions.specs.Printing.{words}
use Rattle.lt_texts.specs.Files.{File, InFile, in_file, printed_place, line_number, column_number}
use Rattle.lt_texts.specs.WrongPlaces.{Wrong, bad_header, bad_command, bad_syntax, bad_byte, bad_char}
use Rattle.lt_walks.specs.Walks.{End, accepted, too_long, wrong_header, unread, refused}
use Rattle.lt_walks.specs.RefusalTexts.{printed_refusal, wrong_word, wrong_place}
use Rattle.lt_walks.specs.Outputs.{line_about, check_line}
use Rattle.lt_commands.specs.declared.refusal.Placed.{Placed}
use Rattle.lt_plain.specs.Telling.{as_placed, TellsEnd}
use Rattle.lt_plain.specs.Showing.{shown_words}
use Rattle.lt_plain.proofs.Showings.{told_prints, wrong_prints}
use Rattle.lt_session.specs.Walks.{RunRefusal, printed}
use Rattle.lt_session.specs.Stepping.{TellsEnd as TellsRunEnd}
use Rattle.lt_session.proofs.Showings.{told_run_prints}
use Rattle.lt_run.specs.Runs.{run_line}
use Rattle.lt_run.specs.declared.files.Joined.{Joined}
use Rattle.lt_run.specs.declared.places.Position.{Position}
use Rattle.lt_run.specs.Places.{AreNames, IsJoinedOfSome, placed_line}
use Rattle.lt_run.proofs.InFiles.{this-file, later-file}

-- the line on a refusal, by its parts
pub line_printed : (files : List File) (placed : Placed) (p : InFile) (place refusal line : List ℕ) → in_file files placed.at ≡ Some p → place ≡ printed_place p
    → refusal ≡ encode_utf8_all (words (shown_words placed.refusal)) → line ≡ place ++ (codes ": " ++ (refusal ++ codes "\n")) → line ≡ placed_line files placed
unfolding placed_line
line_printed files placed p place refusal line found is printed parts =
    parts ∙ (λ i. is i ++ (codes ": " ++ (printed i ++ codes "\n"))) ∙ sym (ap (λ (o : Option InFile). line_about o (words (shown_words placed.refusal))) found)

wrong_at : (e : Wrong) → (as_placed e).at ≡ wrong_place e
wrong_at (bad_header n) = refl
wrong_at (bad_command n) = refl
wrong_at (bad_syntax n) = refl
wrong_at (bad_byte n) = refl
wrong_at (bad_char n) = refl

line_at : (files : List File) (placed : Placed) (at : ℕ) (what : Chars) → placed.at ≡ at → words (shown_words placed.refusal) ≡ what → placed_line files placed ≡ line_about (in_file files at) what
unfolding placed_line
line_at files placed at what same word = λ i. line_about (in_file files (same i)) (word i)

pub wrong_told : (files : List File) (e : Wrong) (placed : Placed) → placed ≡ as_placed e → placed_line files placed ≡ line_about (in_file files (wrong_place e)) (wrong_word e)
wrong_told files e placed tells =
    line_at files placed (wrong_place e) (wrong_word e) (ap (λ (z : Placed). z.at) tells ∙ wrong_at e) (ap (λ (z : Placed). words (shown_words z.refusal)) tells ∙ wrong_prints e)

-- how the walk of `check` ends, as it is told
pub line_told : (files : List File) (end : End Refusal) (placed : Placed) → TellsEnd end placed → placed_line files placed ≡ check_line files end
unfolding check_line
line_told files accepted placed tells = absurd tells
line_told files too_long placed tells = absurd tells
line_told files (wrong_header e) placed tells = wrong_told files e placed tells
line_told files (unread e) placed tells = wrong_told files e placed tells
line_told files (refused r at) placed (same, tells) = line_at files placed at (printed_refusal r) same (told_prints r placed.refusal tells)

-- how that of `run` ends
pub run_told : (files : List File) (end : End RunRefusal) (placed : Placed) → TellsRunEnd end placed → placed_line files placed ≡ run_line files end
run_told files accepted placed tells = absurd tells
run_told files too_long placed tells = absurd tells
run_told files (wrong_header e) placed tells = wrong_told files e placed tells
run_told files (unread e) placed tells = wrong_told files e placed tells
run_told files (refused r at) placed (same, tells) = line_at files placed at (printed r) same (told_run_prints r placed.refusal tells)

-- each place is in a file, where there is one
pub in_some : (files : List File) (place : ℕ) → 0 < length files → (p : InFile) × (in_file files place ≡ Some p)
in_some [] place h = absurd (omega (arith, h))
in_some (f ∷ []) place h = (_, refl)
in_some (f ∷ g ∷ files) place h = by (leb_tells place (length f.bytes)) (in_some (g ∷ files) (place - (length f.bytes + 1)) (omega arith))
  where
    by : ((nat_le place (length f.bytes) ≡ true) × (place ≤ length f.bytes)) ⊎ ((nat_le place (length f.bytes) ≡ false) × (length f.bytes < place))
        → (p : InFile) × (in_file (g ∷ files) (place - (length f.bytes + 1)) ≡ Some p) → (p : InFile) × (in_file (f ∷ g ∷ files) place ≡ Some p)
    by (inl (e, k)) later = (_, this-file f (g ∷ files) place (inr k))
    by (inr (e, k)) later = (later.0, later-file f g files place k ∙ later.1)

-- there is a file, where there is a name
pub names-some : (names : List (List ℕ)) (j : Joined) (held : List File) → IsJoinedOfSome names j → AreNames names held → 0 < length held
names-some names j [] h e = absurd (no-names h.held (sym h.named ∙ e) h.some)
  where
    no-names : (files : List File) → map (λ (f : File). f.name) files ≡ [] → 0 < length files → ⊥
    no-names [] e some = omega (arith, some)
    no-names (f ∷ files) e some = cc e
names-some names j (f ∷ held) h e = omega arith

-- a place by its parts
pub place_printed : {A E : Type 0} (bytes : A → List ℕ) (r : Result A E) (names : List (List ℕ)) (file : ℕ) (name front taken : List ℕ) (q : Position) (p : InFile)
    → IfOk r (λ t. bytes t ≡ name ++ (codes ":" ++ (decimal q.line ++ (codes ":" ++ decimal q.column)))) → slice_get names file ≡ Some name → slice_get names file ≡ Some p.name → front ≡ taken
    → taken ≡ p.before → q.line ≡ line_number front → q.column ≡ column_number front → IfOk r (λ t. bytes t ≡ printed_place p)
place_printed bytes (Err e) names file name front taken q p h one other same before line column = tt
place_printed bytes (Ok t) names file name front taken q p h one other same before line column =
    let both : Some name ≡ Some p.name = sym one ∙ other in
    let named : name ≡ p.name = cc both in
    let is : front ≡ p.before = same ∙ before in
    h ∙ (λ i. named i ++ (codes ":" ++ (decimal ((line ∙ ap line_number is) i) ++ (codes ":" ++ decimal ((column ∙ ap column_number is) i)))))
