use Rattle.std.proofs.Common.{rules, ◌≡◌, ◌∙◌, codes}
use Rattle.std.specs.Prelude.{Some, None, option_map}
use Rattle.clap.specs.Words.{found_of}
use Rattle.clap.proofs.WalkLemmas.{first_value-rows}
use Rattle.lt_words.proofs.WordTests.{given_true, none_true}
use Rattle.lt_words.proofs.read.wants_summary.Goals as goal

pub returns-in-Some : goal.returns-in-Some
returns-in-Some c =
    let here : option_map (λ s. s.now) c.get_str.result ≡ Some c.in-Some.text.now = search rules in
    given_true _ _ c.in-Some.text.now c.eq.result here (c.get_str.ensures ∙ first_value-rows (found_of c.args.matches.now) (codes "summary")) c.eq.ensures

pub returns-in-None : goal.returns-in-None
returns-in-None c =
    let here : option_map (λ s. s.now) c.get_str.result ≡ None = search rules in
    none_true _ _ here (c.get_str.ensures ∙ first_value-rows (found_of c.args.matches.now) (codes "summary"))
