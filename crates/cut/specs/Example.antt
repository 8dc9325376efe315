-- "P2 cut at 4 gives P3", byte for byte; the edges of the numbers; pairs on either side, one of them twice.
use Rattle.std.specs.Prelude.{ℕ, ◌≡◌, List, [], ◌∷◌, ◌++◌, map, replicate}
use Rattle.request.specs.Request.{reading}
use Rattle.request.specs.Encode.{request_bytes}
use Rattle.request.specs.declared.Task.{Task}
use Rattle.request.specs.declared.Pair.{Pair}
use Rattle.request.specs.Written.{request_answer, request_buffer, file_of}
use Rattle.cut.specs.Cut.{cut}

abbrev task : ℕ → ℕ → ℕ → ℕ → Task
task c t d p = record { c = c; t = t; d = d; p = p }

abbrev pair : ℕ → ℕ → Pair
pair a b = record { a = a; b = b }

-- P2 and P3 of the bench sheet
abbrev pub p2_tasks : List Task
p2_tasks = task 2 6 6 0 ∷ task 2 8 8 0 ∷ task 8 24 24 0 ∷ []

abbrev pub p3_tasks : List Task
p3_tasks = task 2 6 6 0 ∷ task 2 8 8 0 ∷ task 4 24 24 0 ∷ task 4 24 24 0 ∷ []

abbrev pub p3_pairs : List Pair
p3_pairs = pair 2 3 ∷ []

abbrev pub P2 : List ℕ
P2 = request_bytes p2_tasks [] 0

abbrev pub P3 : List ℕ
P3 = request_bytes p3_tasks p3_pairs 0

-- three tasks alike, with pairs below, through and above task 1, one of them twice, and g
abbrev pub in_chain : List ℕ
in_chain = request_bytes (task 3 9 9 0 ∷ task 5 9 9 0 ∷ task 1 9 9 0 ∷ []) (pair 0 1 ∷ pair 1 2 ∷ pair 0 2 ∷ pair 1 2 ∷ []) 3

abbrev pub in_chain_cut : List ℕ
in_chain_cut =
    request_bytes (task 3 9 9 0 ∷ task 4 9 9 0 ∷ task 1 9 9 0 ∷ task 1 9 9 0 ∷ [])
    (pair 1 2 ∷ pair 0 1 ∷ pair 2 3 ∷ pair 0 3 ∷ pair 2 3 ∷ []) 3

-- n equal tasks and m pairs 0, 1
abbrev pub many : ℕ → ℕ → List ℕ
many n m = request_bytes (replicate n (task 2 9 9 0)) (replicate m (pair 0 1)) 0

-- the number that a cut gets with a buffer of so many bytes
abbrev pub number : ℕ → List ℕ → ℕ → ℕ → ℕ
number size request i u = (request_answer (cut i u (reading request)) (replicate size 0)).refusal

pub record Examples : Type 0 where
  -- "P2 cut at 4 gives P3."
  pub p2_gives_p3 : file_of (cut 2 4 (reading P2)) (replicate 164 255) ≡ P3
  pub behind : request_buffer (cut 2 4 (reading P2)) (replicate 40 255) ≡ P3 ++ replicate 4 255
  pub linked_is : file_of (cut 1 4 (reading in_chain)) (replicate 164 0) ≡ in_chain_cut
  -- u of 0, 1, C − 1, C; a task that is not there
  pub u_edges : map (number 164 P2 2) (0 ∷ 1 ∷ 7 ∷ 8 ∷ []) ≡ 24 ∷ 0 ∷ 0 ∷ 24 ∷ []
  pub unknown : number 164 P2 3 1 ≡ 24
  -- 24 before 25 before 19 before 11, and the request's own number before all
  pub order : number 0 (many 16 16) 0 2 ∷ number 0 (many 16 16) 0 1 ∷ number 0 (many 15 16) 0 1 ∷ number 0 (many 15 15) 0 1 ∷ number 0 (0 ∷ []) 9 0 ∷ []
      ≡ 24 ∷ 25 ∷ 19 ∷ 11 ∷ 2 ∷ []
  pub boundary : number 162 (many 15 15) 14 1 ∷ number 161 (many 15 15) 14 1 ∷ [] ≡ 0 ∷ 11 ∷ []
