-- Steps of the walk through a theory text.
use Rattle.std.proofs.Common.{◌≡◌, inl, inr, ℕ, List, Option, None, Err, refl, sym, ◌∙◌, ap, subst, chars, codes}
use Rattle.lt_texts.specs.Texts.{Left, left_of}
use Rattle.lt_texts.specs.Commands.{Command}
use Rattle.lt_texts.specs.Forms.{Form, theory_text, header_text, command_words}
use Rattle.lt_texts.specs.WrongPlaces.{Stands, AtEnd}
use Rattle.lt_texts.specs.CommandPlaces.{NextPlaced}
use Rattle.lt_commands.specs.Views.{command_of}
use Rattle.lt_commands.specs.declared.refusal.Refusal.{Refusal}
use Rattle.lt_commands.specs.declared.refusal.Refused.{Refused}
use Rattle.lt_commands.specs.declared.refusal.Placed.{Placed}
use Rattle.lt_script.specs.Scripts.{Begun, begun_of, form_in, headed}
use Rattle.lt_script.specs.Openings.{allowed_words}
use Rattle.lt_script.specs.Promises as reader
use Rattle.lt_script.specs.Promises.{as_wrong}
use Rattle.lt_script.specs.declared.form.Allowed.TheVariants as kinds
use Rattle.lt_script.specs.declared.read_error.ReadError.{ReadError}
use Rattle.lt_script.specs.declared.read_error.ReadError.TheVariants as errors
use Rattle.lt_script.specs.declared.spanned.Spanned.{Spanned}
use Rattle.lt_syntax.proofs.Ascii.{chars-ascii, ascii}
use Rattle.lt_walks.specs.Walks.{unread, refused, place_of}
use Rattle.lt_plain.specs.Placing.{IsPlacedError}
use Rattle.lt_transport_definitions.specs.Sessions.{Session}
use Rattle.lt_session.specs.declared.session.Block.{Block}
use Rattle.lt_session.specs.Sessions.{Holding, session_of}
use Rattle.lt_session.specs.Taking.{TellsRefusal, IsRefused, Refuses, IsTaken}
use Rattle.lt_session.specs.Walks.{by_table, not_built, line_in}
use Rattle.lt_session.specs.Stepping.{IsTheory, RefusesHeader, StopsAt, RefusesCommand, IsNext, TakesSpanned}

-- behind the header of theory texts the form is theirs
form_is : (s : Begun) → IsTheory s → form_in s (allowed_words kinds.All) ≡ theory_text
form_is s h = λ i. headed (h.word i) (h.number i) command_words

pub refuses_theory : (s : Begun) (e : ReadError) → IsTheory s → reader.Refuses (form_in s (allowed_words kinds.All)) s.left e → reader.Refuses theory_text s.left e
refuses_theory s e h r = subst (λ (f : Form). reader.Refuses f s.left e) (form_is s h) r

pub next_theory : (s : Begun) (c : Command) (from : ℕ) (lines : List ℕ) (to : ℕ) (b : Left) → IsTheory s → NextPlaced (form_in s (allowed_words kinds.All)) s.left c from lines to b
    → NextPlaced theory_text s.left c from lines to b
next_theory s c from lines to b h n = subst (λ (f : Form). NextPlaced f s.left c from lines to b) (form_is s h) n

pub end_theory : (s : Begun) → IsTheory s → AtEnd (form_in s (allowed_words kinds.All)) s.left → AtEnd theory_text s.left
end_theory s h e = subst (λ (f : Form). AtEnd f s.left) (form_is s h) e

-- what is wrong where a command may begin
pub stops_unread : (s : Session) (at : Left) (e : ReadError) (p : Placed) → IsPlacedError e p → reader.Refuses theory_text at e → StopsAt s at p
stops_unread s at errors.Memory p is h = inl is
stops_unread s at (errors.BadHeader n) p is h = inr (unread _, inr (inl (_, h, refl)), is)
stops_unread s at (errors.BadCommand n) p is h = inr (unread _, inr (inl (_, h, refl)), is)
stops_unread s at (errors.Syntax n) p is h = inr (unread _, inr (inl (_, h, refl)), is)
stops_unread s at (errors.BadByte n) p is h = inr (unread _, inr (inl (_, h, refl)), is)
stops_unread s at (errors.BadChar n) p is h = inr (unread _, inr (inl (_, h, refl)), is)

-- what is wrong in the header
refuses_header : (s : Left) (e : ReadError) (p : Placed) → IsPlacedError e p → reader.RefusesHeader theory_text s e → RefusesHeader s p
refuses_header s errors.Memory p is h = inl is
refuses_header s (errors.BadHeader n) p is h = inr (_, h, is)
refuses_header s (errors.BadCommand n) p is h = inr (_, h, is)
refuses_header s (errors.Syntax n) p is h = inr (_, h, is)
refuses_header s (errors.BadByte n) p is h = inr (_, h, is)
refuses_header s (errors.BadChar n) p is h = inr (_, h, is)

-- ---- what was read

told-place : (from : ℕ) (lines : List ℕ) (x : Refused) (p : Placed) (o : Option ℕ) → p.at ≡ place_of from lines x.line → x.line ≡ o → p.at ≡ place_of from lines o
told-place from lines x p o at e = at ∙ ap (place_of from lines) e

-- why a command isn't taken, with its place
pub refuses_command : (s : Session) (c : Command) (from : ℕ) (lines : List ℕ) (x : Refused) (p : Placed) → Refuses s c x → p.refusal ≡ x.refusal → p.at ≡ place_of from lines x.line
    → RefusesCommand s c from lines p
refuses_command s c from lines x p (inl m) same at = inl (same ∙ m)
refuses_command s c from lines x p (inr (inl h)) same at = inr (not_built, h.command, same ∙ h.refusal, told-place from lines x p None at h.line)
refuses_command s c from lines x p (inr (inr h)) same at =
    inr (by_table h.first, (h.command, h.comes), subst (tells h) (sym same) h.tells, told-place from lines x p _ at h.line)
  where
    tells : IsRefused s c x → Refusal → Type 0
    tells k y = TellsRefusal k.first y

-- the next command was taken
pub steps_on : (s : Left) (d : Spanned) (old : Holding) (s' : Left) (new : Holding) (block : Block) → NextPlaced theory_text s (command_of d.command) d.from d.lines d.to s'
    → IsTaken old (command_of d.command) new block → IsNext s old s' new block
steps_on s d old s' new block n t = record { command = command_of d.command; from = d.from; lines = d.lines; to = d.to; next = n; taken = t }

stops_by : (s : Session) (at : Left) (d : Spanned) (s' : Left) (p : Placed) → NextPlaced theory_text at (command_of d.command) d.from d.lines d.to s'
    → RefusesCommand s (command_of d.command) d.from d.lines p → StopsAt s at p
stops_by s at d s' p n (inl m) = inl m
stops_by s at d s' p n (inr (r, is, tells, place)) =
    inr (refused r (place_of d.from d.lines (line_in r)), inr (inr (command_of d.command, d.from, d.lines, d.to, s', n, r, is, refl)), (place, tells))

-- it wasn't
pub steps_end : (at : Left) (d : Spanned) (old : Holding) (s' : Left) (new : Holding) (p : Placed) → NextPlaced theory_text at (command_of d.command) d.from d.lines d.to s'
    → TakesSpanned d old new (Err p) → StopsAt (session_of old) at p × (new ≡ old)
steps_end at d old s' new p n (why, same) = (stops_by (session_of old) at d s' p n why, same)

-- ---- the header

pub theory_chars : chars (codes "theory") ≡ codes "theory"
theory_chars = chars-ascii (codes "theory") (ascii (codes "theory") refl)

pub stands_behind : (s : Begun) (text w : List ℕ) (s' : Left) → s ≡ begun_of text → w ≡ codes "theory" → ((commands : List (List ℕ)) → Stands s.left (header_text (headed w 1 commands)) s')
    → Stands (left_of text) (header_text theory_text) s'
stands_behind s text w s' e k h =
    subst (λ (z : Begun). Stands z.left (header_text theory_text) s') e (subst (λ (z : List ℕ). Stands s.left (header_text (headed z 1 command_words)) s') k (h command_words))

pub refuses_behind : (s : Begun) (text w : List ℕ) (e : ReadError) (p : Placed) → s ≡ begun_of text → w ≡ codes "theory" → IsPlacedError e p
    → ((commands : List (List ℕ)) → reader.RefusesHeader (headed w 1 commands) s.left e) → RefusesHeader (left_of text) p
refuses_behind s text w e p same k is h =
    refuses_header (left_of text) e p is
    (subst (λ (z : Begun). reader.RefusesHeader theory_text z.left e) same (subst (λ (z : List ℕ). reader.RefusesHeader (headed z 1 command_words) s.left e) k (h command_words)))
