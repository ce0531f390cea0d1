-- What the getters of clap's matches tell, by its rows.
use Rattle.std.proofs.Common.{◌≡◌, ◌≢◌, List, [], ◌∷◌, map, Bool, false, refl, sym, ◌∙◌, ap, codes}
use Rattle.std.specs.Prelude.{Option, Some, None, option_and_then, unwrap_or}
use Rattle.std.proofs.lemmas.List.{map-id}
use Rattle.std.specs.Option.{option_map_or}
use Rattle.std.specs.Str.{bytes_eq}
use Rattle.clap.specs.Words.{Kinds, Row, Text, all_of, fault_of, first_of, matches_of}
use Rattle.lt_words.specs.Command.{given, given_in, given_without, lt_app}
use Rattle.lt_words.specs.Calls.{call_given, call_of}

-- whether a text that is given is `true`
pub given_true : (r x : Option Text) (t : Text) (b : Bool) → r ≡ Some t → r ≡ x → b ≡ bytes_eq t (codes "true") → b ≡ option_map_or (λ t. bytes_eq t (codes "true")) x false
given_true r x t b e h is = is ∙ ap (λ z. option_map_or (λ t. bytes_eq t (codes "true")) z false) (sym e ∙ h)

pub none_true : (r x : Option Text) → r ≡ None → r ≡ x → false ≡ option_map_or (λ t. bytes_eq t (codes "true")) x false
none_true r x e h = ap (λ z. option_map_or (λ t. bytes_eq t (codes "true")) z false) (sym e ∙ h)

-- the files that stand in the rows
pub some_files : (r : Option (List Text)) (files : List Text) (rows : List Row) → r ≡ Some files → r ≡ all_of (codes "file") rows → files ≡ (given_in rows).files
some_files r files rows e h = ap (λ z. unwrap_or z []) (sym e ∙ h)

pub no_files : (r : Option (List Text)) (rows : List Row) → r ≡ None → r ≡ all_of (codes "file") rows → [] ≡ (given_in rows).files
no_files r rows e h = ap (λ z. unwrap_or z []) (sym e ∙ h)

-- what is given, part by part
pub by_parts : (mode : Option Text) (files : List Text) (summary : Bool) (limit : Option Text) (rows : List Row) → mode ≡ first_of (codes "mode") rows → files ≡ (given_in rows).files
    → summary ≡ (given_in rows).summary → limit ≡ first_of (codes "limit") rows
    → call_given (record { mode = mode; files = files; summary = summary; limit = limit }) ≡ call_given (given_in rows)
by_parts mode files summary limit rows m f s l i = call_given (record { mode = m i; files = f i; summary = s i; limit = l i })

-- ---- the call

-- where the command takes the words, the call is what its rows give
pub taken : (words : List Text) (rows : List Row) → fault_of lt_app (map (λ w. w) words) ≡ [] → rows ≡ matches_of lt_app (map (λ w. w) words) → call_given (given_in rows) ≡ call_of words
unfolding call_of
taken words rows none same =
    ap (λ z. call_given (given_in z)) same ∙ ap (λ k. option_and_then call_given (given_without k (matches_of lt_app (map (λ w. w) words)))) (sym none)
    ∙ ap (λ ws. option_and_then call_given (given ws)) (map-id words)

none-given : (kinds : Kinds) (rows : List Row) → kinds ≢ [] → None ≡ option_and_then call_given (given_without kinds rows)
none-given [] rows h = absurd (h refl)
none-given (k ∷ ks) rows h = refl

-- where it refuses them there is none
pub not_taken : (words : List Text) → fault_of lt_app (map (λ w. w) words) ≢ [] → None ≡ call_of words
unfolding call_of
not_taken words h =
    none-given (fault_of lt_app (map (λ w. w) words)) (matches_of lt_app (map (λ w. w) words)) h ∙ ap (λ ws. option_and_then call_given (given ws)) (map-id words)
