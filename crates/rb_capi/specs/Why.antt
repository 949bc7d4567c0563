-- Why a line isn't taken, on one line.
use Rattle.std.specs.Prelude.{◌≡◌, ◌⊎◌, ◌==◌, ℕ, List, codes, unwrap_or}
use Rattle.std.specs.List.{position, slice_range}
use Rattle.rb_reasons.specs.Reasons.{IsPlain, IsReason, IsShortReason}
use Rattle.rb_capi.specs.Copies.{Copies}

-- the first line of a reason, without the two spaces in front of it
abbrev pub reason_line : List ℕ → List ℕ
reason_line text = slice_range text 2 (unwrap_or (position (λ b. b == 10) text) 0)

-- nothing is wrong with the line itself, or memory ran out
abbrev pub IsNoReason : List ℕ → Type 0
IsNoReason text = (text ≡ codes "it is an entry: another site's, of an id that is there, or not as a site writes it")
    ⊎ (text ≡ codes "out of memory")

-- the text is the first line of a reason, with which a line of so many bytes is refused, or such a reason on one line;
-- or it says that there is none
abbrev pub IsWhy : ℕ → List ℕ → Type 0
IsWhy len text = ((reason : List ℕ) × IsReason len reason × (text ≡ reason_line reason))
    ⊎ ((IsShortReason len text × IsPlain text) ⊎ IsNoReason text)

-- C finds why
abbrev pub TellsWhy : ℕ → List ℕ → List ℕ → ℕ → Type 0
TellsWhy len before after n = (text : List ℕ) × IsWhy len text × Copies text before after n
