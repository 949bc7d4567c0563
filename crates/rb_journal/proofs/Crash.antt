-- The files that a crash leaves in each step of an append and of a repair, for a file's lines.
use Rattle.std.proofs.Common.{◌≡◌, ◌⊎◌, inl, inr, ℕ, ◌+◌, ◌-◌, ◌≤◌, List, [], ◌∷◌, ◌++◌, length, take, drop, refl, sym, ◌∙◌}
use Rattle.std.proofs.Common.{ap, arith, append_assoc, length-append, length-drop, subst, take-append-drop, ⊎_elim}
use Rattle.std.specs.List.{concat}
use Rattle.std.proofs.Math.Seq.{take-append-add}
use Rattle.std.proofs.lemmas.List.Folds.{concat-append}
use Rattle.std.proofs.lemmas.List.{drop_all, take_at, drop_at, take_all, append-nil}
use Rattle.rb_journal.specs.Host.{IsWritten, Torn, TornByte, TornRange, Cut}
use Rattle.rb_journal.specs.Journal.{IsAppended, HasClosedGate, IsRepaired}
use Rattle.rb_journal.specs.Lines.{recovered, IsBatch, at_rest}
use Rattle.rb_journal.proofs.Public.Lines.{begins, recovered-append, parts, front_nothing, closed}

-- bytes that are written where a file ends are added to it
pub written_at_end : (old : List ℕ) (at : ℕ) (bytes new : List ℕ) → at ≡ length old → IsWritten old at bytes new → new ≡ old ++ bytes
written_at_end old at bytes new is holds =
    holds ∙ rw (take_all at old (omega (arith, is)), drop_all (at + length bytes) old (omega (arith, is)), append-nil)

-- of a write that a crash cuts short nothing may be there
pub torn_not : (at : ℕ) (bytes c : List ℕ) → Torn at bytes c c
torn_not at [] c = record { before = refl; after = refl; no_shorter = omega arith; no_longer = omega arith }
torn_not at (b ∷ []) c = inl refl
torn_not at (b ∷ e ∷ bytes) c = record { before = refl; after = refl; no_shorter = omega arith; no_longer = omega arith }

range_behind : (at n : ℕ) (old new : List ℕ) → at ≡ length old → TornRange at n old new
    → (more : List ℕ) × (new ≡ old ++ more) × (length more ≤ n)
range_behind at n old new is torn = (
  drop at new,
  sym (take-append-drop at new) ∙ ap (λ (l : List ℕ). l ++ drop at new) (torn.before ∙ take_all at old (omega (arith, is))),
  omega (arith, torn.no_longer, is, length-drop at new),
)

-- of a write after a file that a crash cuts short no more bytes are there than were to be written
pub torn_behind : (at : ℕ) (bytes old new : List ℕ) → at ≡ length old → Torn at bytes old new
    → (more : List ℕ) × (new ≡ old ++ more) × (length more ≤ length bytes)
torn_behind at [] old new is torn = range_behind at 0 old new is torn
torn_behind at (b ∷ []) old new is (inl same) = ([], same ∙ sym (append-nil old), omega arith)
torn_behind at (b ∷ []) old new is (inr (inl written)) = (b ∷ [], written_at_end old at (b ∷ []) new is written, omega arith)
torn_behind at (b ∷ []) old new is (inr (inr (end, nul))) = (0 ∷ [], nul, omega arith)
torn_behind at (b ∷ e ∷ bytes) old new is torn = range_behind at (length (b ∷ e ∷ bytes)) old new is torn

module _ (front rest : List ℕ) (at a b : ℕ) (is : length front ≡ at) where
  -- a byte that is written in the place of another
  pub over_byte : (new : List ℕ) → IsWritten (front ++ a ∷ rest) at (b ∷ []) new → new ≡ front ++ b ∷ rest
  over_byte new holds =
      let next : drop (at + 1) (front ++ a ∷ rest) ≡ rest =
      ap (λ (l : List ℕ). drop (at + 1) l) (sym (append_assoc front (a ∷ []) rest))
      ∙ drop_at (front ++ a ∷ []) rest (at + 1) (omega (arith, is, length-append front (a ∷ []))) in
      holds ∙ rw (take_at front (a ∷ rest) at is, next) (append_assoc front (b ∷ []) rest)

  -- if a crash cuts that short, one of them is there
  pub torn_over : (new : List ℕ) → TornByte at b (front ++ a ∷ rest) new → (new ≡ front ++ a ∷ rest) ⊎ (new ≡ front ++ b ∷ rest)
  torn_over new (inl same) = inl same
  torn_over new (inr (inl written)) = inr (over_byte new written)
  torn_over new (inr (inr (end, nul))) = absurd (omega (arith, is, end, length-append front (a ∷ rest)))

-- the first byte of a batch is the open gate
gate_is : (batch : List ℕ) → IsBatch batch → 1 ≤ length batch → batch ≡ 123 ∷ drop 1 batch
gate_is [] all some = absurd (omega arith)
gate_is (b ∷ bytes) all some = ap (λ (n : ℕ). n ∷ bytes) (begins b bytes all)

module _ (file : List ℕ) where
  abbrev lines : List (List ℕ)
  lines = recovered file

  abbrev text : List ℕ
  text = concat (recovered file)

  -- the lines, and then what is read as nothing
  behind_nothing : (rest : List ℕ) → recovered rest ≡ [] → recovered (text ++ rest) ≡ lines
  behind_nothing rest none = recovered-append file rest ∙ ap (λ (ls : List (List ℕ)). lines ++ ls) none ∙ append-nil lines

  -- a file at rest is read as its lines
  pub recovered-at_rest : recovered (at_rest lines) ≡ lines
  recovered-at_rest = behind_nothing (32 ∷ []) refl

  -- it is one byte, the gate, longer than they
  pub length-at_rest : length (at_rest lines) ≡ length text + 1
  length-at_rest = omega (arith, length-append text (32 ∷ []))

  -- a file whose gate is closed is read as the lines
  pub closed_is : (c : List ℕ) (most : ℕ) → HasClosedGate lines most c → recovered c ≡ lines
  closed_is c most (bytes, is, few) =
      ap recovered (is ∙ append_assoc text (32 ∷ []) bytes)
      ∙ behind_nothing (32 ∷ bytes) (closed 32 bytes (λ is. absurd (omega arith)))

  module _ (batch : List ℕ) (all : IsBatch batch) (some : 1 ≤ length batch) where
    -- what is written after the gate: the batch without its first byte, and a gate of its own
    abbrev rest : List ℕ
    rest = drop 1 batch ++ 32 ∷ []

    length-rest : length rest ≡ length batch
    length-rest = omega (arith, some, length-append (drop 1 batch) (32 ∷ []), length-drop 1 batch)

    -- a write of it that a crash cuts short leaves the gate closed
    pub torn_rest : (at : ℕ) (bytes old new : List ℕ) → at ≡ length text + 1 → bytes ≡ rest → old ≡ at_rest lines
        → Torn at bytes old new → IsAppended lines batch new
    torn_rest at bytes old new is are was torn =
        let more = torn_behind at bytes old new (omega (arith, is, ap length was, length-at_rest)) torn in
        inl (more.0, more.1 ∙ ap (λ (l : List ℕ). l ++ more.0) was, omega (arith, more.2, ap length are, length-rest))

    -- the whole write leaves it after the gate
    pub written_rest : (at : ℕ) (bytes old new : List ℕ) → at ≡ length text + 1 → bytes ≡ rest → old ≡ at_rest lines
        → IsWritten old at bytes new → new ≡ text ++ 32 ∷ rest
    written_rest at bytes old new is are was written =
        written_at_end old at bytes new (omega (arith, is, ap length was, length-at_rest)) written
        ∙ rw (was, are) (append_assoc text (32 ∷ []) rest)

    -- once the gate is opened the file is at rest with the batch
    opened : text ++ 123 ∷ rest ≡ at_rest (lines ++ recovered batch)
    opened =
        ap (λ (l : List ℕ). text ++ (l ++ 32 ∷ [])) (sym (gate_is batch all some)) ∙ sym (append_assoc text batch (32 ∷ []))
        ∙ ap (λ (l : List ℕ). l ++ 32 ∷ []) (ap (λ (l : List ℕ). text ++ l) (sym all) ∙ sym (concat-append lines (recovered batch)))

    pub written_gate : (at : ℕ) (old new : List ℕ) → at ≡ length text → old ≡ text ++ 32 ∷ rest
        → IsWritten old at (123 ∷ []) new → new ≡ at_rest (lines ++ recovered batch)
    written_gate at old new is was written =
        over_byte text rest at 32 123 (sym is) new (subst (λ (l : List ℕ). IsWritten l at (123 ∷ []) new) was written) ∙ opened

    -- the write that opens it leaves it closed, or the file at rest with the batch
    pub torn_gate : (at : ℕ) (old new : List ℕ) → at ≡ length text → old ≡ text ++ 32 ∷ rest → TornByte at 123 old new
        → IsAppended lines batch new
    torn_gate at old new is was torn = ⊎_elim
        (λ same. inl (rest, same ∙ sym (append_assoc text (32 ∷ []) rest), omega (arith, length-rest))) (λ now. inr (now ∙ opened))
        (torn_over text rest at 32 123 (sym is) new (subst (λ (l : List ℕ). TornByte at 123 l new) was torn))

    -- then it is read as the lines and the batch
    pub after_gate : recovered (at_rest (lines ++ recovered batch)) ≡ lines ++ recovered batch
    after_gate =
        ap (λ (l : List ℕ). recovered (l ++ 32 ∷ [])) (concat-append lines (recovered batch))
        ∙ ap recovered (append_assoc text (concat (recovered batch)) (32 ∷ []))
        ∙ recovered-append file (concat (recovered batch) ++ 32 ∷ []) ∙
        ap (λ (ls : List (List ℕ)). lines ++ ls) (recovered-append batch (32 ∷ []) ∙ append-nil (recovered batch))

    -- and its lines are longer by the batch
    pub length-after : length (concat (lines ++ recovered batch)) ≡ length text + length batch
    length-after = ap length (concat-append lines (recovered batch)) ∙ length-append text (concat (recovered batch))
        ∙ ap (λ (l : List ℕ). length text + length l) all

    -- so all of the batch is there or none of it
    pub all_or_none : (c : List ℕ) → IsAppended lines batch c → (recovered c ≡ lines) ⊎ (recovered c ≡ lines ++ recovered batch)
    all_or_none c (inl shut) = inl (closed_is c (length batch) shut)
    all_or_none c (inr is) = inr (ap recovered is ∙ after_gate)

  -- a cut after the lines leaves them, and a front of what comes after them
  pub cut_is : (c : List ℕ) → Cut (length text) file c → c ≡ text ++ take (length c - length text) (parts file).end
  cut_is c cut =
      let most : length c ≡ length text + (length c - length text) = omega (arith, cut.no_shorter) in
      sym cut.front ∙ ap (λ (l : List ℕ). take (length c) l) (parts file).split
      ∙ ap (λ (n : ℕ). take n (text ++ (parts file).end)) most ∙ take-append-add text (parts file).end (length c - length text)

  -- a cut after the lines leaves just them
  pub cut_done : take (length text) file ≡ text
  cut_done = ap (λ (l : List ℕ). take (length text) l) (parts file).split ∙ take_at text (parts file).end (length text) refl

  -- the lines are no longer than the file
  pub fits : length text ≤ length file
  fits = omega (arith, ap length (parts file).split, length-append text (parts file).end)

  -- the write of the gate leaves the lines, with the gate or a NUL after them, or with nothing
  pub torn_end : (at : ℕ) (old new : List ℕ) → at ≡ length text → old ≡ text → TornByte at 32 old new → IsRepaired file new
  torn_end at old new is was (inl same) = inl (record {
    no_shorter = omega (arith, ap length (same ∙ was));
    front = ap (λ (n : ℕ). take n file) (ap length (same ∙ was)) ∙ cut_done ∙ sym (same ∙ was);
  })
  torn_end at old new is was (inr (inl written)) = inr (inl (written_at_end old at (32 ∷ []) new (is ∙ ap length (sym was)) written
      ∙ ap (λ (l : List ℕ). l ++ 32 ∷ []) was))
  torn_end at old new is was (inr (inr (end, nul))) = inr (inr (nul ∙ ap (λ (l : List ℕ). l ++ 0 ∷ []) was))

  -- what a repair leaves is read as the lines
  pub repaired_is : (c : List ℕ) → IsRepaired file c → recovered c ≡ lines
  repaired_is c (inl cut) =
      ap recovered (cut_is c cut) ∙ behind_nothing (take _ (parts file).end) (front_nothing _ (parts file).end (parts file).nothing)
  repaired_is c (inr (inl gate)) = ap recovered gate ∙ behind_nothing (32 ∷ []) refl
  repaired_is c (inr (inr nul)) = ap recovered nul ∙ behind_nothing (0 ∷ []) refl

  -- the lines alone are read as the lines
  pub text_is : recovered text ≡ lines
  text_is = ap recovered (sym (append-nil text)) ∙ behind_nothing [] refl
