use Rattle.std.proofs.Common.{rules, ◌≡◌, ◌∙◌, codes, map}
use Rattle.std.specs.Prelude.{Some, None, option_map}
use Rattle.clap.specs.Words.{found_of, rows_of}
use Rattle.clap.proofs.WalkLemmas.{first_value-rows, raw_values-rows}
use Rattle.lt_words.proofs.WordTests.{by_parts, some_files, no_files}
use Rattle.lt_words.proofs.read.words_in.Goals as goal

pub returns-in_ok-words_given-in-Some : goal.returns-in_ok-words_given-in-Some
returns-in_ok-words_given-in-Some c =
    let f = found_of c.args.matches.now in
    let files : option_map (λ s. map (λ v. v.now) s.now) c.get_strs.result ≡ Some (map (λ v. v.now) c.in-Some.others.now) = search rules in
    c.in_ok-words_given-in-Some.ensures
    ∙ by_parts _ _ _ _ (rows_of f) (c.get_str-word.ensures ∙ first_value-rows f (codes "mode")) (some_files _ _ (rows_of f) files (c.get_strs.ensures ∙ raw_values-rows f (codes "file"))) c.wants_summary-summary.ensures (c.get_str-limit.ensures ∙ first_value-rows f (codes "limit"))

pub returns-in_ok-words_given-in-None : goal.returns-in_ok-words_given-in-None
returns-in_ok-words_given-in-None c =
    let f = found_of c.args.matches.now in
    let files : option_map (λ s. map (λ v. v.now) s.now) c.get_strs.result ≡ None = search rules in
    c.in_ok-words_given-in-None.ensures
    ∙ by_parts _ _ _ _ (rows_of f) (c.get_str-word.ensures ∙ first_value-rows f (codes "mode")) (no_files _ (rows_of f) files (c.get_strs.ensures ∙ raw_values-rows f (codes "file"))) c.wants_summary-summary.ensures (c.get_str-limit.ensures ∙ first_value-rows f (codes "limit"))
