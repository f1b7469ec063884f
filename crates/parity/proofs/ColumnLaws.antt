-- The odd words of a run in four columns, 16 words a turn: what a word adds, what a turn adds, and where the one odd word is.
-- Assumes nothing.
use Rattle.std.proofs.Common.{◌≡◌, ℕ, ◌+◌, ◌-◌, ◌*◌, ◌/◌, ◌%◌, ◌^◌, ◌<◌, ◌≤◌, ◌≢◌, ◌⊎◌, List, [], ◌∷◌, length, get_or, set, sum, sym, refl, ◌∙◌, inl, inr, ⊎_elim, arith, length-set}
use Rattle.std.proofs.lemmas.List.{set-get_or, get_or-set_same, get_or-set_other}
use Rattle.std.proofs.lemmas.List.Sums.{sum_by-set, get_or-le-sum_by}
use Rattle.parity.specs.Odd.{bit_at, odd, last_odd}
use Rattle.words.proofs.ChoiceLaws.{same_or_not}
use Rattle.parity.proofs.OddLaws.{odd_none, odd_next, odd_grows, last_next, last_kept, last_behind, last_is_odd, others_even}

-- the column of the one odd word, where the counts are of one
abbrev pub column : List ℕ → ℕ
column counts = get_or counts 1 0 + 2 * get_or counts 2 0 + 3 * get_or counts 3 0

-- the counts of the first n words
pub record Counted (words : List ℕ) (n : ℕ) (counts : List ℕ) : Type 0 where
  pub four : length counts ≡ 4
  pub all : sum counts ≡ odd words n
  pub one : odd words n ≡ 1 → column counts ≡ last_odd words n % 4

pub counted_none : (words : List ℕ) → Counted words 0 (0 ∷ 0 ∷ 0 ∷ 0 ∷ [])
counted_none words = record { four = refl; all = sym (odd_none words); one = λ one. absurd (omega (arith, odd_none words, one)) }

column_of_one : (counts : List ℕ) (j : ℕ) → length counts ≡ 4 → sum counts ≡ 0 → j < 4 → column (set counts j 1) ≡ j
column_of_one counts j four none few =
    let put : (m : ℕ) → m < 4 → ((m ≡ j) × (get_or (set counts j 1) m 0 ≡ 1)) ⊎ ((m ≢ j) × (get_or (set counts j 1) m 0 ≡ 0)) =
    λ m h.
    ⊎_elim
    (λ same. inl (same, rw same (get_or-set_same counts j 1 0 (omega arith))))
    (λ (other : m ≢ j). inr (other, get_or-set_other counts j m 1 0 other ∙ omega (arith, get_or-le-sum_by (λ x. x) counts m 0 (omega arith))))
    (same_or_not m j) in
    grind (arith, put 1 (omega arith), put 2 (omega arith), put 3 (omega arith))

-- a word more
module _ (words counts : List ℕ) (n j : ℕ) (at : j ≡ n % 4) (so_far : Counted words n counts) where
  abbrev after : ℕ → List ℕ
  after bit = set counts j (get_or counts j 0 + bit)

  one_of_next : odd words (n + 1) ≡ 1 → column (after (bit_at words n)) ≡ last_odd words (n + 1) % 4
  one_of_next one =
      ⊎_elim
      (λ (here : (bit_at words n ≡ 1) × (last_odd words (n + 1) ≡ n)).
      let none : sum counts ≡ 0 = omega (arith, so_far.all, odd_next words n) in
      let first : get_or counts j 0 + bit_at words n ≡ 1 =
      omega (arith, get_or-le-sum_by (λ x. x) counts j 0 (omega (arith, so_far.four))) in
      rw (first, here.1) (column_of_one counts j so_far.four none (omega arith) ∙ at))
      (λ (stays : (bit_at words n ≡ 0) × (last_odd words (n + 1) ≡ last_odd words n)).
      let same : get_or counts j 0 + bit_at words n ≡ get_or counts j 0 = omega arith in
      rw (same, set-get_or, stays.1) (so_far.one (omega (arith, odd_next words n))))
      (last_next words n)

  pub counted_next : Counted words (n + 1) (after (bit_at words n))
  counted_next = record {
    four = simp length-set so_far.four;
    all = omega (arith, odd_next words n, sum_by-set (λ x. x) counts j (get_or counts j 0 + bit_at words n) 0 (omega (arith, so_far.four)), so_far.all);
    one = one_of_next;
  }

-- the sums of the counts after each of i turns: where one word is odd, as many as there are turns from it on
pub record Summed (words : List ℕ) (i : ℕ) (sums : List ℕ) : Type 0 where
  pub four : length sums ≡ 4
  pub none : odd words (16 * i) ≡ 0 → sum sums ≡ 0
  pub one : odd words (16 * i) ≡ 1 → sum sums + last_odd words (16 * i) / 16 ≡ i

pub summed_none : (words : List ℕ) → Summed words 0 (0 ∷ 0 ∷ 0 ∷ 0 ∷ [])
summed_none words = record { four = refl; none = λ none. refl; one = λ one. absurd (omega (arith, odd_none words, one)) }

-- a turn more, if the counts are added with no carry out of 32 bits where one word is odd
module _
    (words counts before sums : List ℕ) (i : ℕ) (counted : Counted words (16 * (i + 1)) counts) (so_far : Summed words i before)
    (few : i < 2 ^ 31) (four : length sums ≡ 4) (added : sum before + sum counts < 2 ^ 32 → sum sums ≡ sum before + sum counts)
  where
    grows : odd words (16 * i) ≤ odd words (16 * (i + 1))
    grows = let next : 16 * (i + 1) ≡ 16 * i + 16 = omega arith in rw next (odd_grows words (16 * i) 16)

    one_of_turn : odd words (16 * (i + 1)) ≡ 1 → sum sums + last_odd words (16 * (i + 1)) / 16 ≡ i + 1
    one_of_turn one =
        ⊎_elim
        (λ (none : odd words (16 * i) ≡ 0).
        let behind = last_behind words (16 * i) (16 * (i + 1)) (omega arith) one none in
        omega (arith, added, so_far.none none, counted.all, one, behind.0, behind.1))
        (λ (some : odd words (16 * i) ≢ 0).
        let had : odd words (16 * i) ≡ 1 = omega (arith, grows, one, some) in
        let was = so_far.one had in
        rw (last_kept words (16 * i) (16 * (i + 1)) (omega arith) one had)
        (omega (arith, added, was, counted.all, one)))
        (same_or_not (odd words (16 * i)) 0)

    pub summed_next : Summed words (i + 1) sums
    summed_next = record {
      four = four;
      none = λ none. omega (arith, added, counted.all, none, so_far.none (omega (arith, grows, none)));
      one = one_of_turn;
    }

-- the row of the one odd word: of the words of its column and turn, it alone is odd
module _ (words : List ℕ) (n : ℕ) (one_odd : odd words n ≡ 1) where
  bit_there : (at : ℕ) → at < n → ((at ≡ last_odd words n) × (bit_at words at ≡ 1)) ⊎ ((at ≢ last_odd words n) × (bit_at words at ≡ 0))
  bit_there at below =
      ⊎_elim (λ same. inl (same, rw same (last_is_odd words n (omega (arith, one_odd))).1))
      (λ other. inr (other, others_even words n (omega (arith, one_odd)) at below other))
      (same_or_not at (last_odd words n))

  pub row_found :
      (first row : ℕ) → row < 4 → first + 12 < n → last_odd words n ≡ first + 4 * row
      → first + 4 * bit_at words (first + 4) + 8 * bit_at words (first + 8) + 12 * bit_at words (first + 12) ≡ last_odd words n
  row_found first row few inside at =
      grind (arith, bit_there (first + 4) (omega arith), bit_there (first + 8) (omega arith), bit_there (first + 12) inside)

-- where the columns say that the one odd word is: how many turns stand before it, and the place of the first word of its column in its turn
module _
    (words counts sums : List ℕ) (turns : ℕ) (counted : Counted words (16 * turns) counts) (summed : Summed words turns sums)
    (one : odd words (16 * turns) ≡ 1)
  where
    abbrev last : ℕ
    last = last_odd words (16 * turns)

    first_is : (16 * (turns - sum sums) + column counts ≡ 16 * (last / 16) + last % 4) × (last < 16 * turns)
    first_is =
        let before = last_is_odd words (16 * turns) (omega (arith, one)) in
        let back = summed.one one in
        let narrow = counted.one one in
        (omega (arith, back, narrow, before.0), before.0)

    pub first_inside : 16 * (turns - sum sums) + column counts + 12 < 16 * turns
    first_inside = let is = first_is in omega (arith, is.0, is.1)

    pub place_found :
        (first : ℕ) → first ≡ 16 * (turns - sum sums) + column counts
        → first + 4 * bit_at words (first + 4) + 8 * bit_at words (first + 8) + 12 * bit_at words (first + 12) ≡ last
    place_found first at =
        let is = first_is in
        row_found words (16 * turns) one first (last % 16 / 4) (omega arith) (omega (arith, is.0, is.1)) (omega (arith, is.0))
