use Rattle.rb_history.proofs.Words.{◌≡◌, ◌+◌, ◌<◌, ◌++◌, ◌∷◌, [], ℕ, List, get_or, take, length, ap, sym, ◌∙◌, append_assoc, append-nil}
use Rattle.rb_history.proofs.Words.{arith, add-zero, refl, take_more, take-set_at, take-length}
use Rattle.std.proofs.Math.ListN.{set}
use Rattle.rb_history.proofs.write.put.put_bytes.Goals as goal

-- a byte more
one_more : (space front bytes : List ℕ) (at i : ℕ) → i < length bytes → at + i < length space → take (at + i) space ≡ front ++ take i bytes
    → take (at + (i + 1)) (set space (at + i) (get_or bytes i 0)) ≡ front ++ take (i + 1) bytes
one_more space front bytes at i h k e =
    let byte = get_or bytes i 0 in
    take-set_at space (at + i) (at + (i + 1)) byte (omega arith) k ∙ ap (λ l. l ++ (byte ∷ [])) e
    ∙ append_assoc front (take i bytes) (byte ∷ []) ∙ ap (λ l. front ++ l) (sym (take_more bytes i 0 h))

pub loop-i-init : goal.loop-i-init
loop-i-init c = ap (λ n. take n c.args.space.now) (add-zero c.args.at) ∙ sym (append-nil (take c.args.at c.args.space.now))

pub loop-i-preserved : goal.loop-i-preserved
loop-i-preserved c =
    one_more c.loop-i.space (take c.args.at c.args.space.now) c.args.bytes.now c.args.at c.loop-i.i (omega arith) (omega arith)
    c.loop-i.invariant

pub returns : goal.returns
returns c =
    let at = c.args.at in
    let bytes = c.args.bytes.now in
    let front = take at c.args.space.now in
    let all : length bytes ≡ c.loop-i.i = omega arith in
    let bytes_there = ap (λ i. take (at + i) c.loop-i.space) all ∙ c.loop-i.invariant ∙ ap (λ i. front ++ take i bytes) (sym all)
    ∙ ap (λ l. front ++ l) (take-length bytes) in
    record { bytes = bytes_there; moved = refl }
