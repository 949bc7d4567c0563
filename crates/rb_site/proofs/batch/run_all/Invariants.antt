-- So far the requests below are made.
use Rattle.std.proofs.Common.{◌≡◌, ◌<◌, length, take, Ok}
use Rattle.rb_token.specs.Token.{Token}
use Rattle.rb_token.specs.Seen.{Shows}
use Rattle.rb_scratch.specs.Batches.{batch_of}
use Rattle.rb_scratch.specs.Tried.{IsTried}
use Rattle.rb_site.proofs.batch.run_all.Given as goal

abbrev pub invariant-requests : goal.invariant-requests
invariant-requests l = record {
  here : l.scratch.token.me < l.scratch.ledger.now.settings.sites;
  same_reference : l.scratch.ledger.ghost_name ≡ l.initial.scratch.ledger.ghost_name;
  token : l.scratch.token ≡ l.initial.scratch.token;
  settings : l.scratch.ledger.now.settings ≡ l.initial.scratch.ledger.now.settings;
  tried : IsTried l.initial.scratch.ledger.now.entries l.scratch.made.items l.scratch.ledger.now l.scratch.undos.parts;
  all : length l.scratch.made.items ≡ l.index;
  made : (known : Token) → Shows l.initial.scratch.token known →
      batch_of l.initial.scratch.ledger.now.settings l.initial.scratch.token.me l.initial.scratch.ledger.now.entries known 0
      (take l.index l.requests) ≡ Ok l.scratch.made.items;
}
