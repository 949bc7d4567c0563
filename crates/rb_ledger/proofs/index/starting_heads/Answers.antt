use Rattle.rb_ledger.proofs.Words.{◌≡◌, ℕ, ◌<◌, List, [], ◌∷◌, ◌++◌, ◌⊎◌, inl, inr, length, ap, sym, ◌∙◌, arith, Some}
use Rattle.rb_ledger.proofs.Words.{slice_get, slice_index, Head}
use Rattle.rb_ledger.proofs.Indexed
use Rattle.rb_ledger.proofs.IndexLists
use Rattle.rb_ledger.proofs.index.starting_heads.Goals as goal

-- heads without operations, with what the accounts start with
abbrev AreBegun : List ℕ → List Head → Type 0
AreBegun ns hs = (i : ℕ) (h : Head) → slice_get hs i ≡ Some h → (h.last ≡ 0) × (h.balance ≡ slice_index ns i)

-- one more of them
begun_push : (ns : List ℕ) (hs ks : List Head) (n : ℕ) → AreBegun ns hs → ks ≡ hs ++ record { last = 0; balance = n } ∷ []
    → n ≡ slice_index ns (length hs) → AreBegun ns ks
begun_push ns hs ks n begun is start i h read = at (IndexLists.get_push hs _ h i (ap (λ xs. slice_get xs i) (sym is) ∙ read))
  where
    at : ((i < length hs) × (slice_get hs i ≡ Some h)) ⊎ ((i ≡ length hs) × (record { last = 0; balance = n } ≡ h)) →
        (h.last ≡ 0) × (h.balance ≡ slice_index ns i)
    at (inl (low, there)) = begun i h there
    at (inr (last, same)) = (
      sym (ap (λ (h : Head). h.last) same),
      sym (ap (λ (h : Head). h.balance) same) ∙ start ∙ ap (slice_index ns) (sym last),
    )

pub loop-place-preserved : goal.loop-place-preserved
loop-place-preserved c =
    let at : c.loop-place.place ≡ length c.loop-place.heads.items = omega (arith, c.loop-place.invariant.count) in
    record {
      count = omega (arith, c.in_ok-push.ensures.len, c.loop-place.invariant.count);
      each = begun_push c.args.config.now.starts _ _ c.start-balance.result c.loop-place.invariant.each c.in_ok-push.ensures.items
          (c.start-balance.ensures ∙ ap (slice_index c.args.config.now.starts) at);
    }

pub returns : goal.returns
returns c =
    let many : length c.loop-place.heads.items ≡ length c.args.config.now.starts =
    omega (arith, ap length c.accounts.ensures.starts, c.len-place-end.ensures.starts) in
    Indexed.heads_none c.args.config.now c.loop-place.heads.items many c.loop-place.invariant.each
