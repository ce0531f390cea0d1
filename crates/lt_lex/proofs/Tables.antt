-- The tables of ASCII characters agree with the definitions.
use Rattle.std.proofs.Common.{◌≡◌, ℕ, ◌<◌, ◌∙◌, ap, sym, refl, Bool, false, ◌||◌}
use Rattle.std.specs.Prelude.{◌==◌, slice_index_or}
use Rattle.std.specs.Char.{is_ascii_alphabetic, is_ascii_alphanumeric}
use Rattle.std.proofs.lemmas.Bool.{agree_below_at}
use Rattle.unicode_ident.specs.Ident.{is_xid_continue}
use Rattle.unicode_ident.proofs.IdentLemmas.{is_xid_start-ascii, is_xid_continue-ascii}
use Rattle.lt_definitions.specs.Characters.{starts_name}
use Rattle.lt_lex.specs.declared.ascii.TheConstants.{STARTS, GOES_ON}

pub starts_told : (c : ℕ) → c < 128 → slice_index_or STARTS c false ≡ starts_name c
starts_told c h =
    agree_below_at (λ x. slice_index_or STARTS x false) (λ x. is_ascii_alphabetic x || (x == 95)) 128 c refl h
    ∙ ap (λ (y : Bool). y || (c == 95)) (sym (is_xid_start-ascii c h))

pub goes_on_told : (c : ℕ) → c < 128 → slice_index_or GOES_ON c false ≡ is_xid_continue c
goes_on_told c h =
    agree_below_at (λ x. slice_index_or GOES_ON x false) (λ x. is_ascii_alphanumeric x || (x == 95)) 128 c refl h
    ∙ sym (is_xid_continue-ascii c h)
