use Rattle.rb_history.proofs.Words.{◌≤◌, ◌++◌, ◌∙◌, Bool, true, false, [], add-one, ap, codes, cond, drop-cons}
use Rattle.rb_history.proofs.Words.{length, take, append_assoc, arith, map, number_json}
use Rattle.rb_history.proofs.Public.Listed.{item_written, items_written, rest_text, whole_text}
use Rattle.rb_history.proofs.Put.{placed_at, placed_then}
use Rattle.rb_history.proofs.write.counts.put_counts.Goals as goal

-- a comma that may be left out is a byte at most
one_at_most : (b : Bool) → length (cond b (codes ",") []) ≤ 1
one_at_most true = omega arith
one_at_most false = omega arith

pub loop-count-init : goal.loop-count-init
loop-count-init c = record {
  within = omega (arith, c.put_text-end.ensures.moved);
  written = ap (λ l. l ++ rest_text [] (map number_json c.args.counts.now)) c.put_text-end.ensures.bytes;
}

pub loop-count-preserved : goal.loop-count-preserved
loop-count-preserved c =
    let added = placed_then c.put_if-digits.ensures c.put_small-end.ensures.text in
    let counts = c.args.counts.now in
    let i = c.loop-count.count-index in
    record {
      within = omega (arith, c.put_if-digits.ensures.moved, one_at_most c.loop-count.comma, c.put_small-end.ensures.short);
      written = item_written number_json _ _ (cond c.loop-count.comma (codes ",") []) _ counts i _
          (rw add-one (drop-cons counts i 0 (omega arith))) added.bytes c.loop-count.invariant.written;
    }

pub returns : goal.returns
returns c =
    let old = take c.args.at c.args.space.now in
    let all = map number_json c.args.counts.now in
    let list = rest_text [] all in
    let items = items_written number_json _ _ ((old ++ codes "[") ++ list) c.args.counts.now c.loop-count.count-index (omega arith)
    c.loop-count.invariant.written in
    placed_at (omega arith) (omega arith) (c.put_text.ensures.bytes ∙ ap (λ l. l ++ codes "]") items
    ∙ append_assoc (old ++ codes "[") list (codes "]") ∙ append_assoc old (codes "[") (list ++ codes "]")
    ∙ ap (λ l. old ++ (codes "[" ++ l)) (whole_text all))
