-- The state of the token that a site keeps, and the part that it shows.
use Rattle.std.specs.Prelude.{◌≡◌, ℕ}
use Rattle.rb_money.specs.declared.limits.Limits.{Limits}
use Rattle.rb_token.specs.declared.view.TokenView.{TokenView}
use Rattle.rb_token.specs.Token.{Token}

-- the site, how many there are, the limits, and what the site knows of the token
pub record SeenToken : Type 0 where
  pub me : ℕ
  pub sites : ℕ
  pub limits : Limits
  pub token : Token

-- a view says whether a site has the token, and how many red operations it needs
pub record Shows (view : TokenView) (t : Token) : Type 0 where
  pub held : view.held ≡ t.held
  pub needed : view.needed ≡ t.needed
