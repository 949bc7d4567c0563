-- The derived test of requests is true exactly of equal ones.
use Rattle.std.specs.Prelude.{◌≡◌, ◌↔◌, true, IsTrue}
use Rattle.std.proofs.Common.{refl, sym, true≢false}
use Rattle.std.proofs.lemmas.Bool.{and_from as both, and_parts as each}
use Rattle.rb_kit.proofs.Public.{exact_if}
use Rattle.rb_money.proofs.Public.Tests.{number_same, number_sound}
use Rattle.rb_shadow.specs.Exact.{names_exact, place_sound}
use Rattle.rb_scratch.specs.contracts.request.RequestPartialEq.TheImpl.{ghosts as request_test}
use Rattle.rb_scratch.specs.declared.request.Request.{Request}
use Rattle.rb_scratch.specs.declared.request.Request.TheVariants.{Deposit, Withdraw, Interest, Cancel, Transfer}

request_sound : (x y : Request) → request_test.eq x y ≡ true → x ≡ y
request_sound (Deposit a m) (Deposit b n) h = let (places, numbers) = each _ _ h in
    λ t. Deposit (place_sound a b places t) (number_sound m n numbers t)
request_sound (Withdraw a m) (Withdraw b n) h = let (places, numbers) = each _ _ h in
    λ t. Withdraw (place_sound a b places t) (number_sound m n numbers t)
request_sound (Interest a m) (Interest b n) h = let (places, numbers) = each _ _ h in
    λ t. Interest (place_sound a b places t) (number_sound m n numbers t)
request_sound (Cancel a) (Cancel b) h = λ t. Cancel ((names_exact a b).0 h t)
request_sound (Transfer a b m) (Transfer c d n) h =
    let (places, rest) = each _ _ h in
    let (others, numbers) = each _ _ rest in
    λ t. Transfer (place_sound a c places t) (place_sound b d others t) (number_sound m n numbers t)
request_sound _ _ h = absurd (true≢false (sym h))

request_same : (x : Request) → request_test.eq x x ≡ true
request_same (Deposit a m) = both _ _ (number_same a.0) (number_same m)
request_same (Withdraw a m) = both _ _ (number_same a.0) (number_same m)
request_same (Interest a m) = both _ _ (number_same a.0) (number_same m)
request_same (Cancel a) = (names_exact a a).1 refl
request_same (Transfer a b m) = both _ _ (number_same a.0) (both _ _ (number_same b.0) (number_same m))

pub requests_exact : (x y : Request) → IsTrue (request_test.eq x y) ↔ (x ≡ y)
requests_exact = exact_if request_test.eq request_sound request_same
