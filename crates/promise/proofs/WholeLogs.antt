-- Any list of strings is that of a log.
use Rattle.std.proofs.Common.{◌≡◌, refl, sym, List, [], ◌∷◌, ◌++◌, append_assoc, ℕ, ◌+◌, ◌-◌, arith, length, take, drop, length-append}
use mathlib.Core.List.{flatten}
use lib.Seq.{take-append_seam, drop-append_seam}
use Rattle.promise.specs.Logs.{strings_from, ends_from}
use Rattle.promise.specs.Laws.{EveryLog}

-- the strings that follow others
strings_after : (before : List ℕ) (ss : List (List ℕ))
    → strings_from (length before) (before ++ flatten ss) (ends_from (length before) ss) ≡ ss
unfolding strings_from ends_from flatten
strings_after before [] = refl
strings_after before (s ∷ ss) =
    let size : length before + length s - length before ≡ length s = omega arith in
    let first : take (length before + length s - length before) (drop (length before) (before ++ (s ++ flatten ss))) ≡ s =
    rw (size, drop-append_seam, take-append_seam) in
    let more : strings_from (length before + length s) (before ++ (s ++ flatten ss)) (ends_from (length before + length s) ss) ≡ ss =
    rw (sym (length-append before s), sym (append_assoc before s (flatten ss))) (strings_after (before ++ s) ss) in
    rw (first, more)

pub every_log : EveryLog
every_log ss = strings_after [] ss
