-- Lists of calls from C on bytes that the caller keeps, and lists of the calls below them on what the bytes say. It is said once, for timers, heaters and drafts.
use Rattle.std.specs.Prelude.{ℕ, ◌≡◌, Bool, true, false, cond, ◌&&◌, List, [], ◌∷◌, ◌++◌, map, take, drop, leb}
use Rattle.cursor.specs.Choice.{keep}
use Rattle.bus_laws.specs.Changed.{ChangesOnly}

-- a call that lends so many bytes, from the front of the caller's buffer
pub record Lending (Call : Type 0) : Type 0 where
  pub lent : ℕ
  pub call : Call

-- One kind of calls from C. S is what the bytes say, Call such a call with all else that it gets, Seen what its caller sees besides the bytes, and B the call below.
pub record Kind (S Call Seen B : Type 0) : Type 1 where
  -- the bytes: how many a call asks for, which of these are used, whether they are good ones, and what they say
  pub size : ℕ
  pub Used : ℕ → Type 0
  pub good : List ℕ → Bool
  pub says : List ℕ → S
  -- a call from C on the bytes that it is lent: what is seen of it, and the bytes after it
  pub seen : Call → List ℕ → Seen
  pub leaves : Call → List ℕ → List ℕ
  -- its other buffers are long enough; and what is seen of a call that is refused with 99
  pub fits : Call → Bool
  pub sent_back : Call → Seen
  -- the call below it, what C sees of that call, and what there is after a list of such calls
  pub asked : Call → B
  pub shown : Call → S → Seen
  pub final : S → List B → S

module _ {S Call Seen B : Type 0} (k : Kind S Call Seen B) where
  -- One call: it sees the bytes that it is lent and no others

  abbrev pub seen_of : List ℕ → Lending Call → Seen
  seen_of bytes l = k.seen l.call (take l.lent bytes)

  abbrev pub left_by : List ℕ → Lending Call → List ℕ
  left_by bytes l = k.leaves l.call (take l.lent bytes) ++ drop l.lent bytes

  -- A list: each call takes the bytes that the last one left

  unfoldable pub all_seen : List ℕ → List (Lending Call) → List Seen
  all_seen bytes [] = []
  all_seen bytes (l ∷ ls) = seen_of bytes l ∷ all_seen (left_by bytes l) ls

  unfoldable pub bytes_left : List ℕ → List (Lending Call) → List ℕ
  bytes_left bytes [] = bytes
  bytes_left bytes (l ∷ ls) = bytes_left (left_by bytes l) ls

  -- The same list below: without the calls that lend too few bytes

  abbrev pub enough : Lending Call → Bool
  enough l = leb k.size l.lent && k.fits l.call

  unfoldable pub fed : List (Lending Call) → List B
  fed [] = []
  fed (l ∷ ls) = keep (enough l) (k.asked l.call) (fed ls)

  abbrev pub shown_of : S → Lending Call → Seen
  shown_of s l = cond (enough l) (k.shown l.call s) (k.sent_back l.call)

  -- each call takes what the last one gave
  unfoldable pub all_shown : S → List (Lending Call) → List Seen
  all_shown s [] = []
  all_shown s (l ∷ ls) = shown_of s l ∷ all_shown (k.final s (fed (l ∷ []))) ls

  -- Good bytes: every answer is that of the calls below, and the bytes say what these give
  pub record Runs (bytes : List ℕ) (calls : List (Lending Call)) : Type 0 where
    pub same_seen : all_seen bytes calls ≡ all_shown (k.says bytes) calls
    pub still_good : k.good (bytes_left bytes calls) ≡ true
    pub same_said : k.says (bytes_left bytes calls) ≡ k.final (k.says bytes) (fed calls)
    -- there are as many bytes, and none but the used ones changes
    pub changed : ChangesOnly k.Used bytes (bytes_left bytes calls)

  -- Others: every call is refused with 99, and no byte changes
  pub record Refused (bytes : List ℕ) (calls : List (Lending Call)) : Type 0 where
    pub all_refused : all_seen bytes calls ≡ map (λ (l : Lending Call). k.sent_back l.call) calls
    pub bytes_kept : bytes_left bytes calls ≡ bytes

  -- the statement, for all bytes and every list of calls
  abbrev pub RunsAll : Type 0
  RunsAll = (bytes : List ℕ) (calls : List (Lending Call)) → (k.good bytes ≡ true → Runs bytes calls) × (k.good bytes ≡ false → Refused bytes calls)
