use Rattle.std.proofs.Common.{rules, ◌≡◌, ℕ, true, false, List, Result, Ok, Err, Bor}
use Rattle.std.specs.Prelude.{MatchOption, MatchResult}
use Rattle.std.specs.Result.{result_ok}
use Rattle.std.specs.Str.{is_utf8, IsUtf8}
use Rattle.std.proofs.lemmas.Bool.{false_from_ne_true}
use Rattle.std.specs.Str.{IsAscii}
use Rattle.std.proofs.lemmas.Str.{IsUtf8-from_ascii, IsUtf8-from_is_utf8, is_utf8-from_IsUtf8}
use Rattle.rb_lines.proofs.line.text_on.Goals as goal

-- what the text is, or that there is none
found : {E : Type 0} (Q : E → Type 0) (bs : List ℕ) (r : Result (Bor (List ℕ)) E)
    → MatchResult r (λ s. (s.now ≡ bs) × IsUtf8 bs) (λ e. ¬ (IsUtf8 bs) × Q e)
    → MatchOption (result_ok r) (is_utf8 bs ≡ false) (λ text. (text.now ≡ bs) × (is_utf8 bs ≡ true))
found Q bs (Ok s) h = (h.0, is_utf8-from_IsUtf8 bs h.1)
found Q bs (Err e) h = false_from_ne_true (is_utf8 bs) (λ t. h.0 (IsUtf8-from_is_utf8 bs t))

pub from_utf8_unchecked-requires : goal.from_utf8_unchecked-requires
from_utf8_unchecked-requires c =
    let plain : IsAscii c.args.line.now = search rules in
    IsUtf8-from_ascii c.args.line.now plain

pub returns-then-is_ascii : goal.returns-then-is_ascii
returns-then-is_ascii c =
    let plain : IsAscii c.args.line.now = search rules in
    (search rules, is_utf8-from_IsUtf8 c.args.line.now (IsUtf8-from_ascii c.args.line.now plain))

pub returns : goal.returns
returns c = rw c.ok.ensures.value (found _ c.args.line.now c.from_utf8.result c.from_utf8.ensures.cases)
