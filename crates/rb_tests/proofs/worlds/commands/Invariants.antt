-- So far all are commands.
use Rattle.std.proofs.Common.{All}
use Rattle.rb_site.specs.Worlds.{IsCommand}
use Rattle.rb_tests.proofs.worlds.commands.Given as goal

abbrev pub invariant-loop-line : goal.invariant-loop-line
invariant-loop-line l = All IsCommand l.events.items
