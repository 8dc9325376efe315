-- The bytes of the tries give the count back.
use Rattle.std.specs.Prelude.{ℕ, zero, suc, ◌/◌, ◌<◌, ◌^◌, ◌≡◌, List, ◌++◌, length, drop}
use Rattle.std.proofs.Common.{pow-suc, arith, le-ltb}
use Rattle.planner.specs.Outcome.{searched_answer}
use Rattle.lent.specs.Numbers.{low_first}
use Rattle.lent.specs.NumberLaws.{lowest_first}
use Rattle.bus.specs.Plan.{plan_tries}
use Rattle.bus_laws.specs.Tries.{number_said, TriesBack}

number_back : (n number : ℕ) (rest : List ℕ) → number < 256 ^ n → number_said n (low_first n number ++ rest) ≡ number
unfolding number_said
number_back zero number rest h = omega arith
number_back (suc n) number rest h =
    let less : number / 256 < 256 ^ n = omega (arith, rw (pow-suc 256 n) at h) in
    rw (lowest_first n number, number_back n (number / 256) rest less) (omega arith)

pub tries_back : TriesBack
unfolding plan_tries searched_answer
tries_back allowance request out tries small room =
    rw (le-ltb (length tries) 8 room) (number_back 8 (searched_answer allowance request out).tries (drop 8 tries) (omega arith))
