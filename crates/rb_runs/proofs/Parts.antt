-- Texts that go out one after the other.
use Rattle.rb_runs.proofs.Words.{◌≡◌, ℕ, List, [], ◌++◌, Option, sym, ◌∙◌, append-nil, append_assoc, Appends, Appends-trans, Sends}
use Rattle.rb_runs.proofs.Words.{AppendsFront}

-- a part more went out or is buffered
pub sends_more : (w0 w w' : Option (List ℕ)) (buffered text now part still whole : List ℕ) → whole ≡ text ++ part
    → Sends w0 w (buffered ++ text) now → Sends w w' (now ++ part) still → Sends w0 w' (buffered ++ whole) still
sends_more w0 w w' buffered text now part still whole e before more = (
  before.0 ++ more.0,
  Appends-trans w0 w w' before.0 more.0 before.1 more.1,
  rw (e, ← append_assoc buffered text part, before.2, append_assoc before.0 now part, more.2) (sym (append_assoc before.0 more.0 still)),
)

-- a prefix of what is buffered is one of all that was to be written
pub sends_front : (w0 w w' : Option (List ℕ)) (buffered text now part rest whole : List ℕ) → whole ≡ text ++ (part ++ rest)
    → Sends w0 w (buffered ++ text) now → AppendsFront w w' (now ++ part) → AppendsFront w0 w' (buffered ++ whole)
sends_front w0 w w' buffered text now part rest whole e before front = (
  before.0 ++ front.0,
  (
    front.1.0 ++ rest,
    rw (
      e,
      ← append_assoc buffered text (part ++ rest),
      before.2,
      append_assoc before.0 now (part ++ rest),
      ← append_assoc now part rest,
      front.1.1,
    )
        (simp append_assoc),
  ),
  Appends-trans w0 w w' before.0 front.0 before.1 front.2,
)

-- what was buffered went out
pub sends_all : (w0 w w' : Option (List ℕ)) (text now : List ℕ) → Sends w0 w text now → Appends w w' now → Sends w0 w' text []
sends_all w0 w w' text now before all =
    (before.0 ++ now, Appends-trans w0 w w' before.0 now before.1 all, before.2 ∙ sym (append-nil (before.0 ++ now)))
