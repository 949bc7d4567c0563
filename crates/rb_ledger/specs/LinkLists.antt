-- Lists of links.
use Rattle.std.specs.Prelude.{Bool, false, map, slice_set, ◌≡◌, ◌⊎◌, ℕ, zero, suc, ◌+◌, ◌==◌, if◌then◌else◌, List, [], ◌∷◌, slice_index_or}
use Rattle.rb_money.specs.declared.place.Place.{Place}
use Rattle.rb_ledger.specs.declared.marks.Link.{Link}
use Rattle.rb_ledger.specs.declared.marks.Links.{Links}
use Rattle.rb_ledger.specs.declared.link_list.OwnLink.{OwnLink}

-- the links, whether each operation is cancelled, and for how many there is memory
pub record LinkTable : Type 0 where
  pub items : List Links
  pub cancelled : List Bool
  pub limit : ℕ

-- the balance of a number, from 1, of the balances on second accounts
abbrev pub second_balance : List ℕ → ℕ → ℕ
second_balance ns zero = 0
second_balance ns (suc i) = slice_index_or ns i 0

-- the link on the operation's own account
abbrev pub own_link : OwnLink → Link
own_link o = record { balance = o.balance; earlier = o.earlier }

-- the link on its second account, by the balances on second accounts
abbrev pub other_link : List ℕ → OwnLink → Link
other_link ns o = record { balance = second_balance ns o.second; earlier = o.other_earlier }

-- both links of an operation
abbrev pub both_links : List ℕ → OwnLink → Links
both_links ns o = record { own = own_link o; account = o.account; other = other_link ns o }

-- what is kept of an operation's links, if the balance on the second account has the number
abbrev pub kept_link : Links → ℕ → OwnLink
kept_link l n = record {
  balance = l.own.balance;
  earlier = l.own.earlier;
  other_earlier = l.other.earlier;
  second = n;
  account = l.account;
  cancelled = false;
}

-- whether each operation is cancelled
abbrev pub marks : List OwnLink → List Bool
marks os = map (λ (o : OwnLink). o.cancelled) os

-- another mark at a position, counted from 1; none at 0
abbrev pub marked_at : ℕ → Bool → List Bool → List Bool
marked_at zero b bs = bs
marked_at (suc i) b bs = slice_set bs i b

-- the link on an account, which is one of the operation's two
abbrev pub link_at_place : Links → Place → Link
link_at_place l a = if l.account.0 == a.0 then l.own else l.other

-- the operations with a balance on a second account are numbered in their order, from the first number plus 1 to the
-- last
unfoldable pub AreNumbered : ℕ → List OwnLink → ℕ → Type 0
AreNumbered first [] last = first ≡ last
AreNumbered first (o ∷ os) last = ((o.second ≡ 0) × AreNumbered first os last) ⊎
    ((o.second ≡ first + 1) × AreNumbered (first + 1) os last)
