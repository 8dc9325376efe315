-- The row sweep: the sided jobs, each with the rows from `first` to before `end`, are put into rows, a row after the other and in a row a job
-- after the other; each is put into the row or left out of it. The state at a row is one flag for each job: it has a row already.
-- The witness is a row for each job, `Rows`; where the sweep stands at row p and job x, the flag of y says that its row is before p, or is p and
-- y < x (`Trace`). No witness comes through a state that fails; or, as a row is closed only if no job left out could still be put into it
-- (`more`), where a witness comes through there is one with a smaller sum of rows (`Better`): moving the job there. `From` and `Rest` say so of a
-- state where a row begins and of one within a row; SweepLaws has a law for each turn of the sweep, WitnessLaws what follows where a state fails.
-- Assumes nothing.
use Rattle.std.specs.Prelude.{◌≡◌, Bool, true, false, not, cond, ◌&&◌, ◌||◌, List, ℕ, zero, suc, ◌+◌, ◌-◌, ◌≤◌, ◌<◌, length, get_or, leb, ltb, eqb}

-- what is given
pub record Rules : Type 1 where
  -- the number of jobs, and the room of a row
  pub n : ℕ
  pub f : ℕ
  -- what a job takes of its row; its rows: the first, and one past the last
  pub cost : ℕ → ℕ
  pub first : ℕ → ℕ
  pub end : ℕ → ℕ
  -- the jobs that are put into rows; the others are left out of account
  pub sided : ℕ → Bool
  -- the order, by the flags of those before it in the row: the job may be put into this row, it may be left out of it
  pub put_ok : List Bool → ℕ → Bool
  pub leave_ok : List Bool → ℕ → Bool
  -- all that must not stand in a later row have a row
  pub free : List Bool → ℕ → Bool
  -- the first must not stand in a later row than the second
  pub before : ℕ → ℕ → Type 0

-- the test holds of a number below m
unfoldable pub any_below : (ℕ → Bool) → ℕ → Bool
any_below t zero = false
any_below t (suc m) = t m || any_below t m

-- job x could still be put into row p, which has this room left
unfoldable pub more : Rules → ℕ → List Bool → ℕ → ℕ → Bool
more u p ps room x = u.sided x && (not (get_or ps x false) && (leb (u.first x) p && (leb (u.cost x) room && u.free ps x)))

-- job x is passed over in row p: it is not put into rows, or it has a row, or its rows are later
abbrev pub skips : Rules → ℕ → List Bool → ℕ → Bool
skips u p ps x = not (u.sided x) || (get_or ps x false || ltb p (u.first x))

abbrev pub puts : Rules → List Bool → ℕ → ℕ → Bool
puts u ps room x = leb (u.cost x) room && u.put_ok ps x

abbrev pub leaves : Rules → ℕ → List Bool → ℕ → Bool
leaves u p ps x = ltb (p + 1) (u.end x) && u.leave_ok ps x

-- the sum of r over j numbers, from x on
unfoldable pub sum : (ℕ → ℕ) → ℕ → ℕ → ℕ
sum r zero x = 0
sum r (suc j) x = r x + sum r j (x + 1)

-- the cost of the jobs that have no row yet and must stand in the w rows from p on
unfoldable pub waiting : Rules → ℕ → List Bool → ℕ → ℕ
waiting u p ps w = sum (λ x. cond (u.sided x && (not (get_or ps x false) && leb (u.end x) (p + w))) (u.cost x) 0) u.n 0

-- the tests of the order hold of job i where the sweep stands between two rows
abbrev pub in_order : Rules → List Bool → ℕ → Bool
in_order u ps i = cond (get_or ps i false) (u.put_ok ps i) (u.leave_ok ps i)

abbrev pub AllInOrder : Rules → List Bool → Type 0
AllInOrder u ps = (i : ℕ) → i < u.n → in_order u ps i ≡ true

-- what the tests of the order must say
pub record Lawful (u : Rules) : Type 0 where
  pub put_holds : (ps : List Bool) (x : ℕ) → x < u.n → ((y : ℕ) → y < x → u.sided y ≡ true → u.before y x → get_or ps y false ≡ true) → u.put_ok ps x ≡ true
  pub leave_holds : (ps : List Bool) (x : ℕ) → x < u.n → ((z : ℕ) → z < x → u.sided z ≡ true → u.before x z → get_or ps z false ≡ false) → u.leave_ok ps x ≡ true
  pub free_says : (ps : List Bool) (x : ℕ) → x < u.n → u.free ps x ≡ true → (y : ℕ) → y < u.n → u.sided y ≡ true → u.before y x → get_or ps y false ≡ true
  pub order_says : (ps : List Bool) → AllInOrder u ps → (y x : ℕ) → y < u.n → x < u.n → u.before y x → get_or ps x false ≡ true → get_or ps y false ≡ true

-- what the jobs from x on, j of them, take of row p
unfoldable pub load : Rules → (ℕ → ℕ) → ℕ → ℕ → ℕ → ℕ
load u r p zero x = 0
load u r p (suc j) x = cond (u.sided x && eqb (r x) p) (u.cost x) 0 + load u r p j (x + 1)

-- a row for each job; rows before b bind nothing
pub record Rows (u : Rules) (b rows : ℕ) (r : ℕ → ℕ) : Type 0 where
  pub low : (x : ℕ) → x < u.n → u.sided x ≡ true → b ≤ r x → u.first x ≤ r x
  pub high : (x : ℕ) → x < u.n → u.sided x ≡ true → b ≤ r x → r x < u.end x
  pub room : (p : ℕ) → b ≤ p → p < rows → load u r p u.n 0 ≤ u.f
  pub order : (y x : ℕ) → y < u.n → x < u.n → u.sided y ≡ true → u.sided x ≡ true → u.before y x → r y ≤ r x

-- the flags where the sweep stands at row p and job x
pub record Trace (u : Rules) (r : ℕ → ℕ) (p x : ℕ) (ps : List Bool) : Type 0 where
  pub size : u.n ≤ length ps
  pub past : (y : ℕ) → y < u.n → u.sided y ≡ true → r y < p → get_or ps y false ≡ true
  pub passed : (y : ℕ) → y < u.n → u.sided y ≡ true → r y ≡ p → y < x → get_or ps y false ≡ true
  pub here : (y : ℕ) → y < u.n → u.sided y ≡ true → r y ≡ p → x ≤ y → get_or ps y false ≡ false
  pub later : (y : ℕ) → y < u.n → u.sided y ≡ true → p < r y → get_or ps y false ≡ false

-- rows with a smaller sum; the jobs with rows before b are the same
pub record Better (u : Rules) (b rows : ℕ) (r : ℕ → ℕ) : Type 0 where
  pub other : ℕ → ℕ
  pub good : Rows u b rows other
  pub less : sum other u.n 0 < sum r u.n 0
  pub kept : (y : ℕ) → r y < b → other y < b
  pub stays : (y : ℕ) → b ≤ r y → b ≤ other y

-- no rows come through the state where row p begins with these flags, or there are better ones
pub record From (u : Rules) (rows p : ℕ) (ps : List Bool) : Type 0 where
  pub better : Lawful u → (b : ℕ) → b ≤ p → (r : ℕ → ℕ) → Rows u b rows r → Trace u r p 0 ps → Better u b rows r

-- the same of the state in row p at job x, with this room left
pub record Rest (u : Rules) (rows p x : ℕ) (ps : List Bool) (room : ℕ) : Type 0 where
  pub better : p < rows → Lawful u → (b : ℕ) → b ≤ p → (r : ℕ → ℕ) → Rows u b rows r → Trace u r p x ps
      → room + load u r p u.n 0 ≡ u.f + load u r p (u.n - x) x → Better u b rows r

-- all that have a flag in one list have it in the other
abbrev pub Fewer : List Bool → List Bool → Type 0
Fewer qs ps = (y : ℕ) → get_or qs y false ≡ true → get_or ps y false ≡ true

-- the order is kept: who has a row has it behind those that must not be later
pub record Ordered (u : Rules) (ps : List Bool) : Type 0 where
  pub says : Lawful u → (y x : ℕ) → y < u.n → x < u.n → u.sided y ≡ true → u.before y x → get_or ps x false ≡ true → get_or ps y false ≡ true
