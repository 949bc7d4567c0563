-- A command's own JSON object is read as the command.
use Rattle.rb_history.proofs.Words.{◌≡◌, ◌^◌, List, [], ◌∷◌, Some, refl, map, Data, items_of, Settings, Request, ReadsCommands}
use Rattle.rb_history.proofs.Words.{ReadsRequests, request_alone, requests_in, below}
use Rattle.rb_history.proofs.Reading.{back}

reads_requests : (s : Settings) → ReadsRequests s
reads_requests s = record {
  deposit = λ amount name k. rw (below amount (2 ^ 64) k) refl;
  withdraw = λ amount name k. rw (below amount (2 ^ 64) k) refl;
  interest = λ rate name k. rw (below rate (2 ^ 32) k) refl;
  cancel = λ x k. rw (back x k) refl;
  transfer = λ amount from to k. rw (below amount (2 ^ 64) k) refl;
}

-- if each value of a list is a request, the list is read as these requests
pub list_back : (s : Settings) (list : List Data) (rs : List Request) → map (request_alone s) list ≡ map Some rs →
    requests_in s (items_of list) ≡ Some rs
list_back s [] [] h = refl
list_back s [] (r ∷ rs) h = absurd (cc)
list_back s (d ∷ list) [] h = absurd (cc)
list_back s (d ∷ list) (r ∷ rs) h =
    let first : request_alone s d ≡ Some r = cc in
    let later : map (request_alone s) list ≡ map Some rs = cc in
    rw (first, list_back s list rs later) refl

-- each command is read from its object, in every configuration
pub reads_commands : (s : Settings) → ReadsCommands s
reads_commands s = record {
  deposit = λ site amount name h k. rw (below site (2 ^ 8) h, below amount (2 ^ 64) k) refl;
  withdraw = λ site amount name h k. rw (below site (2 ^ 8) h, below amount (2 ^ 64) k) refl;
  interest = λ site rate name h k. rw (below site (2 ^ 8) h, below rate (2 ^ 32) k) refl;
  cancel = λ site x h k. rw (below site (2 ^ 8) h, back x k) refl;
  transfer = λ site amount from to h k. rw (below site (2 ^ 8) h, below amount (2 ^ 64) k) refl;
  alone = reads_requests s;
  batch = λ site list rs h k. rw (below site (2 ^ 8) h, list_back s list rs k) refl;
  apply = λ site x h k. rw (below site (2 ^ 8) h, back x k) refl;
  pass = λ site to h k. rw (below site (2 ^ 8) h, below to (2 ^ 8) k) refl;
  balance = λ site name h. rw (below site (2 ^ 8) h) refl;
  asof = λ site n name h k. rw (below site (2 ^ 8) h, below n (2 ^ 32) k) refl;
  statement = λ site name h. rw (below site (2 ^ 8) h) refl;
  deliver = λ site m h k. rw (below site (2 ^ 8) h, below m (2 ^ 32) k) refl;
}
