use Rattle.rb_history.proofs.Words.{BeginsWithRequest, None, Submit, IfSome, arith, subst}
use Rattle.rb_history.proofs.OwnLines.{own_line}
use Rattle.rb_history.proofs.fast.command.sited.Goals as goal

pub returns : goal.returns
returns c =
    let s = c.args.config.now in
    let text = c.args.text.now in
    let read = c.in-Some in
    let asked : BeginsWithRequest s read.request text read.rest.now =
    subst (λ o. IfSome o (λ p. BeginsWithRequest s p.0 text p.1.now)) read.is c.requires in
    own_line s c.sites-sites.ensures.configured None c.in_ok-site.site (Submit read.request) text read.rest.now (
      tt,
      asked.0,
      asked.1,
    ) (omega arith) c.in_ok-site.ensures
