-- Turns with nothing more to read get through what is there, if the text has room for an answer.
use Rattle.std.proofs.Common.{◌≡◌, refl, Bool, true, false, List, [], ◌++◌, ℕ, zero, suc, ◌+◌, ◌≤◌, ◌<◌, ltb, length, take, drop, replicate}
use Rattle.std.proofs.Common.{arith, le-ltb, ltb-false}
use Rattle.std.proofs.lemmas.List.{append-nil}
use Rattle.std.proofs.Math.ListN.{length-drop}
use Rattle.records.specs.declared.stream.Next.{Next}
use Rattle.records.specs.declared.stream.Next.TheVariants.{Whole, Broken, Partial}
use Rattle.records.specs.Stream.{next_record}
use Rattle.records.proofs.FormatLaws.{whole_least, whole_not_broken}
use Rattle.report.specs.declared.pass.Stop.{Stop}
use Rattle.report.specs.declared.pass.Stop.TheVariants as stop
use Rattle.report.specs.Passes.{State, room, pass_of, passed, tried, emptied}
use Rattle.report.specs.Pieces.{Reading, reading, turns}
use Rattle.report.proofs.Joined.{passed_on}

-- where a pass stops
module _ (size : ℕ) (s : List ℕ) where
  stops_inside : (n : ℕ) (r : State) (from : ℕ) → from ≤ length s → (from ≤ (pass_of n size r s from).next) × ((pass_of n size r s from).next ≤ length s)
  unfolding pass_of
  stops_inside zero r from within = (omega arith, within)
  stops_inside (suc n) r from within = go (ltb size (length r.text + room)) (next_record (drop from s)) refl refl (stops_inside n)
    where
      go : (full : Bool) (x : Next) → ltb size (length r.text + room) ≡ full → next_record (drop from s) ≡ x
          → ((r : State) (from : ℕ) → from ≤ length s → (from ≤ (pass_of n size r s from).next) × ((pass_of n size r s from).next ≤ length s))
          → (from ≤ (pass_of (suc n) size r s from).next) × ((pass_of (suc n) size r s from).next ≤ length s)
      go true x f e further = rw f (omega arith, within)
      go false Partial f e further = rw (f, e) (omega arith, within)
      go false Broken f e further = rw (f, e) (within, omega arith)
      go false (Whole k) f e further =
          let most = (whole_not_broken (drop from s) k e).0 in
          let there = length-drop from s in
          let next = further (tried r (take k (drop from s))) (from + k) (omega arith) in
          rw (f, e) (omega (arith, next.0), next.1)

  -- with room for an answer a record is tried before the text is full
  takes_some : (r : State) → length r.text + room ≤ size → (passed size r s).stop ≡ stop.Full → (1 ≤ (passed size r s).next) × ((passed size r s).next ≤ length s)
  unfolding pass_of
  takes_some r has_room = go (next_record (drop 0 s)) refl
    where
      free : ltb size (length r.text + room) ≡ false
      free = le-ltb size (length r.text + room) has_room

      go : (x : Next) → next_record (drop 0 s) ≡ x → (passed size r s).stop ≡ stop.Full → (1 ≤ (passed size r s).next) × ((passed size r s).next ≤ length s)
      go Partial e = rw (free, e) (λ q. absurd (cc))
      go Broken e = rw (free, e) (λ q. absurd (cc))
      go (Whole k) e =
          let least = whole_least (drop 0 s) k e in
          let most = (whole_not_broken (drop 0 s) k e).0 in
          let there = length-drop 0 s in
          let next = stops_inside (length s) (tried r (take k (drop 0 s))) (0 + k) (omega arith) in
          rw (free, e) (λ q. (omega (arith, least, next.0), next.1))

-- nothing more is read
abbrev nothing : ℕ → List (List ℕ)
nothing n = replicate n []

abbrev IsThrough : Reading → Type 0
IsThrough i = next_record i.left ≡ Partial

none_left : next_record [] ≡ Partial
unfolding next_record
none_left = refl

module _ (size : ℕ) where
  stays_through : (n : ℕ) (i : Reading) → IsThrough i → IsThrough (turns size i (nothing n))
  unfolding turns pass_of
  stays_through zero i e = e
  stays_through (suc n) i e = go (ltb size (length i.state.text + room)) refl (stays_through n)
    where
      left : drop 0 i.left ++ [] ≡ i.left
      left = append-nil i.left

      go : (full : Bool) → ltb size (length i.state.text + room) ≡ full → ((j : Reading) → IsThrough j → IsThrough (turns size j (nothing n)))
          → IsThrough (turns size i (nothing (suc n)))
      go true f further = rw f (further (reading (i.printed ++ i.state.text) (emptied i.state) (drop 0 i.left ++ [])) (rw left e))
      go false f further = rw (f, e) (further (reading i.printed i.state (drop 0 i.left ++ [])) (rw left e))

  gets_on : room ≤ size → (n : ℕ) (i : Reading) → length i.state.text + room ≤ size → length i.left < n → IsThrough (turns size i (nothing n))
  unfolding turns
  gets_on large zero i has_room enough = absurd (omega arith)
  gets_on large (suc n) i has_room enough =
      go (passed size i.state i.left).stop refl ((passed_on size i.state i.left []).partial) (takes_some size i.left i.state has_room) (gets_on large n)
    where
      r : State
      r = (passed size i.state i.left).state

      next : ℕ
      next = (passed size i.state i.left).next

      go : (why : Stop) → (passed size i.state i.left).stop ≡ why
          → ((passed size i.state i.left).stop ≡ stop.Partial → next_record (drop next i.left) ≡ Partial)
          → ((passed size i.state i.left).stop ≡ stop.Full → (1 ≤ next) × (next ≤ length i.left))
          → ((j : Reading) → length j.state.text + room ≤ size → length j.left < n → IsThrough (turns size j (nothing n)))
          → IsThrough (turns size i (nothing (suc n)))
      go stop.Full q cut some further =
          let (least, most) = some q in
          let shorter = length-drop next i.left in
          rw (q, append-nil (drop next i.left)) (further (reading (i.printed ++ r.text) (emptied r) (drop next i.left)) (omega arith) (omega arith))
      go stop.Partial q cut some further =
          rw (q, append-nil (drop next i.left)) (stays_through n (reading i.printed r (drop next i.left)) (cut q))
      go stop.Broken q cut some further = rw q none_left

  -- a text without room is printed first
  pub gets_through : room ≤ size → (i : Reading) (n : ℕ) → length i.left + 2 ≤ n → IsThrough (turns size i (nothing n))
  unfolding turns pass_of
  gets_through large i zero enough = absurd (omega arith)
  gets_through large i (suc n) enough = go (ltb size (length i.state.text + room)) refl
    where
      go : (full : Bool) → ltb size (length i.state.text + room) ≡ full → IsThrough (turns size i (nothing (suc n)))
      go true f =
          rw (f, append-nil i.left) (gets_on large n (reading (i.printed ++ i.state.text) (emptied i.state) i.left) (omega arith) (omega arith))
      go false f = gets_on large (suc n) i (ltb-false size (length i.state.text + room) f) (omega arith)
