-- The words as a command of clap, and what it reads of them.
-- Source: this project's own; what a command reads of words is clap's `fault_of` and `matches_of`.
use Rattle.std.specs.Prelude.{◌∷◌, [], Bool, List, Option, Some, None, true, false, codes}
use Rattle.std.specs.Prelude.{unwrap_or}
use Rattle.std.specs.Option.{option_map_or}
use Rattle.std.specs.Str.{bytes_eq}
use Rattle.clap.specs.Words.{App, Kinds, Row, Rule, Text, all_of, fault_of, first_of, matches_of}
use Rattle.clap.specs.Words.{new_app, new_rule, with_rule}
use Rattle.clap.specs.declared.builder.ArgAction.TheVariants.{Append, SetTrue}

-- MODE: a word that has to stand there
abbrev pub mode_rule : Rule
mode_rule = record (new_rule (codes "mode")) { required = true }

-- FILE..: any number of words, also with options between them
abbrev pub file_rule : Rule
file_rule = record (new_rule (codes "file")) { action = Some Append }

-- --summary
abbrev pub summary_rule : Rule
summary_rule = record (new_rule (codes "summary")) {
  long = Some (codes "summary");
  action = Some SetTrue;
}

-- --limit N
abbrev pub limit_rule : Rule
limit_rule = record (new_rule (codes "limit")) { long = Some (codes "limit") }

-- without help and version flags; the words don't begin with the program's name
abbrev pub bare_app : App
bare_app = let new = new_app (codes "lt") in record new {
  top = record new.top {
    no_binary_name = true;
    disable_help_flag = true;
    disable_version_flag = true;
  };
}

-- the command line of the program
abbrev pub lt_app : App
lt_app =
    with_rule (with_rule (with_rule (with_rule bare_app mode_rule) file_rule) summary_rule)
    limit_rule

-- What the command reads of words: the first word that is no option, the others, whether the
-- summary is asked for, and the value of the limit.
pub record Given : Type 0 where
  pub mode : Option Text
  pub files : List Text
  pub summary : Bool
  pub limit : Option Text

-- what the rows of a parse give
abbrev pub given_in : List Row → Given
given_in rows = record {
  mode = first_of (codes "mode") rows;
  files = unwrap_or (all_of (codes "file") rows) [];
  summary = option_map_or (λ t. bytes_eq t (codes "true")) (first_of (codes "summary") rows) false;
  limit = first_of (codes "limit") rows;
}

abbrev pub given_without : Kinds → List Row → Option Given
given_without [] rows = Some (given_in rows)
given_without (k ∷ ks) rows = None

-- What the command reads of words; none where it refuses them.
abbrev pub given : List Text → Option Given
given words = given_without (fault_of lt_app words) (matches_of lt_app words)
