-- The configuration's line was buffered first.
use Rattle.rb_runs.proofs.Words.{rules, ◌≡◌, ℕ, List, ◌++◌, Option, Err, subst, Sends, config_line}
use Rattle.rb_lines.proofs.Public.Sending.{Sends-front}
use Rattle.rb_runs.proofs.Parts.{sends_all}
use Rattle.rb_runs.specs.declared.recorded.unwritten.Unwritten.TheVariants.{Write}
use Rattle.rb_runs.proofs.recorded.text.write_text.Goals as goal

begun : (w0 w : Option (List ℕ)) (buffered line rest now : List ℕ) → buffered ≡ line → Sends w0 w (buffered ++ rest) now
    → Sends w0 w (line ++ rest) now
begun w0 w buffered line rest now is sent = subst (λ t. Sends w0 w (t ++ rest) now) is sent

pub returns-clause-written : goal.returns-clause-written
returns-clause-written g c =
    let first = begun _ _ c.in_ok-buffered.buffered.items (config_line c.args.config.now) _ _ c.in_ok-buffered.ensures
    c.in_ok-write_histories.ensures.written in
    sends_all _
    (g.W.Sink.contents c.write_histories.new.writer) _ _ c.write_histories.new.buffered.items first c.in_ok-flush.ensures.written.0

pub returns-in_err-flush-clause-written : goal.returns-in_err-flush-clause-written
returns-in_err-flush-clause-written g c =
    let passed : c.from_residual-in_err-flush.result ≡ Err Write = search rules in
    let first = begun _ _ c.in_ok-buffered.buffered.items (config_line c.args.config.now) _ _ c.in_ok-buffered.ensures
    c.in_ok-write_histories.ensures.written in
    rw passed
    (Sends-front _ (g.W.Sink.contents c.write_histories.new.writer) _ _ c.write_histories.new.buffered.items first
    c.in_err-flush.ensures.written.0)
