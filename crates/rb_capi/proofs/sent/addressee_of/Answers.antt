-- The site is the token's, or 255.
use Rattle.std.proofs.Common.{◌∙◌, ap, rules}
use Rattle.std.specs.Prelude.{unwrap_or}
use Rattle.serde_json.specs.View.{view}
use Rattle.rb_capi.proofs.Messages.{no_site, no_token, of_site}
use Rattle.rb_capi.proofs.sent.addressee_of.Goals as goal

pub returns-in_default : goal.returns-in_default
returns-in_default c = no_token (view c.args.message.now) (search rules)

pub returns-in_default-get : goal.returns-in_default-get
returns-in_default-get c = no_site (view c.args.message.now) (view c.in-Some.token.now) (search rules) (search rules)

pub returns : goal.returns
returns c = c.unwrap_or.ensures ∙ ap (λ o. unwrap_or o 255) c.byte.ensures
    ∙ of_site (view c.args.message.now) (view c.in-Some.token.now) (view c.in-Some-get.site.now) (search rules) (search rules)
