-- Several entries, one after another from the front on.
use Rattle.std.proofs.Common.{◌≡◌, ℕ, ◌+◌, ◌<◌, ◌≤◌, Bool, true, false, cond, not, ◌&&◌, ltb, leb, List, [], ◌∷◌, length, get_or, drop, is_some, is_ok, Some, None, Ok, Err, Option, Result, unwrap_or, sym, refl, ap, ◌∙◌, arith}
use Rattle.std.specs.Option.{option_and_then}
use Rattle.std.proofs.lemmas.List.{at_drop_more, at_drop_all}
use Rattle.std.proofs.lemmas.Bool.{and_parts, cond-true, cond-false, lt-ltb, le-ltb, leb-true, true≢false}
use Rattle.routes.specs.Acceptable.{acceptable}
use Rattle.routes.specs.Entries.{can_add}
use Rattle.routes.specs.Calls.{no_room, put_answer, put_left}
use Rattle.routes.specs.Insert.{has_subnet, insert, updated, placed, renewed}
use Rattle.routes.specs.Limits.{max_routes}
use Rattle.routes.specs.Order.{same_subnet}
use Rattle.routes.specs.Remove.{remove}
use Rattle.routes.specs.Several.{can_add_all, insert_all, remove_all, add_answer, add_left, OneTakenBack}
use Rattle.routes.specs.Start.{refilled}
use Rattle.routes.specs.Added.{added}
use Rattle.routes.specs.declared.entry.Entry.{Entry}
use Rattle.routes.specs.declared.route.Route.{Route}
use Rattle.routes.specs.declared.table.NotPut.{NotPut}
use Rattle.routes.specs.declared.table.NotPut.TheVariants.{NotAcceptable, Full}
use Rattle.routes.proofs.Lawfulness.{length_placed}
use Rattle.routes.proofs.Subnets.{one_taken_back}

-- an entry to stand where there is none
abbrev pub no_entry : Entry
no_entry = record { flags = 0; route = record { subnet = record { network = 0; mask = 0 }; port = 0; life = 0 } }

module _ (es : List Entry) (i : ℕ) (h : i < length es) where
  abbrev pub next_entry : Entry
  next_entry = get_or es i no_entry

  pub can_add_more : can_add_all (drop i es) ≡ (can_add next_entry && can_add_all (drop (i + 1) es))
  can_add_more = at_drop_more can_add_all es i no_entry h

  pub insert_more : (rs : List Route) → insert_all (drop i es) rs ≡ insert_all (drop (i + 1) es) (insert next_entry.route rs)
  insert_more rs = at_drop_more (λ (xs : List Entry). insert_all xs rs) es i no_entry h

  pub remove_more : (rs : List Route) → remove_all (drop i es) rs ≡ option_and_then (remove_all (drop (i + 1) es)) (remove next_entry.route.subnet rs)
  unfolding remove_all
  remove_more rs = at_drop_more (λ (xs : List Entry). remove_all xs rs) es i no_entry h

  -- the next entry may be added, and so may those behind it
  pub next_can : can_add_all (drop i es) ≡ true → (acceptable next_entry.route ≡ true) × (can_add_all (drop (i + 1) es) ≡ true)
  next_can e =
      let both = and_parts (can_add next_entry) (can_add_all (drop (i + 1) es)) (sym can_add_more ∙ e) in
      ((and_parts _ (acceptable next_entry.route) both.0).1, both.1)

pub remove_last : (es : List Entry) (i : ℕ) (rs : List Route) → length es ≤ i → remove_all (drop i es) rs ≡ Some rs
unfolding remove_all
remove_last es i rs h = at_drop_all (λ (xs : List Entry). remove_all xs rs) es i h

-- ---- how many entries there are

updated_length : (r : Route) (rs : List Route) → length (updated r rs) ≡ length rs
unfolding updated
updated_length r [] = refl
updated_length r (x ∷ xs) =
    elim (same_subnet r x) as (λ t. length (cond t (renewed x r ∷ xs) (x ∷ updated r xs)) ≡ length (x ∷ xs)) [
      | true ↦ refl
      | false ↦ omega (arith, updated_length r xs)
    ]

insert_grows : (r : Route) (rs : List Route) → length rs ≤ length (insert r rs)
insert_grows r rs =
    elim (has_subnet r.subnet rs) as (λ t. length rs ≤ length (cond t (updated r rs) (placed r rs))) [
      | true ↦ omega (arith, updated_length r rs)
      | false ↦ omega (arith, length_placed r rs)
    ]

pub insert_all_grows : (es : List Entry) (rs : List Route) → length rs ≤ length (insert_all es rs)
insert_all_grows [] rs = omega arith
insert_all_grows (e ∷ es) rs = omega (arith, insert_grows e.route rs, insert_all_grows es (insert e.route rs))

-- an entry that finds no place would be one too many
no_room_passes : (r : Route) (rs : List Route) → no_room r rs ≡ true → max_routes < length (insert r rs)
no_room_passes r rs e =
    let both = and_parts (not (has_subnet r.subnet rs)) (leb max_routes (length rs)) e in
    at (has_subnet r.subnet rs) both.0 (leb-true max_routes (length rs) both.1)
  where
    at : (t : Bool) → not t ≡ true → max_routes ≤ length rs → max_routes < length (cond t (updated r rs) (placed r rs))
    at true f h = absurd (true≢false (sym f))
    at false f h = omega (arith, length_placed r rs)

-- ---- one entry put

-- it is put where there is room, and else it is one too many
pub record Put (r : Route) (rs : List Route) (told : Result (Unit {0}) NotPut) (left : List Route) : Type 0 where
  pub done : is_ok told ≡ true → left ≡ insert r rs
  pub full : (why : NotPut) → told ≡ Err why → (why ≡ Full) × (max_routes < length (insert r rs))

abbrev by_room : Bool → Result (Unit {0}) NotPut
by_room full = cond full (Err Full) (Ok tt)

accepted : (r : Route) (rs : List Route) → acceptable r ≡ true → put_answer r rs ≡ by_room (no_room r rs)
accepted r rs a = ap (λ (b : Bool). cond (not b) (Err NotAcceptable) (by_room (no_room r rs))) a

full_at : (r : Route) (rs : List Route) (t : Bool) → no_room r rs ≡ t → (why : NotPut) → by_room t ≡ Err why → (why ≡ Full) × (max_routes < length (insert r rs))
full_at r rs true f why e = let w : why ≡ Full = cc in (w, no_room_passes r rs f)
full_at r rs false f why e = let z : ◌≡◌ {A = ℕ} 0 1 = cc in absurd (omega arith)

pub was_put : (r : Route) (rs : List Route) (told : Result (Unit {0}) NotPut) (left : List Route) → acceptable r ≡ true → told ≡ put_answer r rs → left ≡ put_left r rs → Put r rs told left
was_put r rs told left a t l = record {
  done = λ e. l ∙ cond-true (is_ok (put_answer r rs)) _ _ (sym (ap is_ok t) ∙ e);
  full = λ why e. full_at r rs (no_room r rs) refl why (sym (accepted r rs a) ∙ sym t ∙ e);
}

-- ---- all of them

pub adds_none : (es : List Entry) (rs : List Route) → max_routes < length (insert_all es rs) → added es rs ≡ Err Full
adds_none es rs h = cond-true _ _ _ (lt-ltb max_routes (length (insert_all es rs)) h)

pub adds_all : (es : List Entry) (rs is : List Route) → is ≡ insert_all es rs → length is ≤ max_routes → added es rs ≡ Ok is
adds_all es rs is e h =
    cond-false _ _ _ (le-ltb max_routes (length (insert_all es rs)) (omega (arith, ap length e))) ∙ ap Ok (sym e)

-- ---- one entry taken out

pub removed_one : (o : Option (List Route)) (rs left : List Route) (f : List Route → Option (List Route)) → is_some o ≡ true → left ≡ unwrap_or o rs → f left ≡ option_and_then f o
removed_one None rs left f e l = absurd (true≢false (sym e))
removed_one (Some less) rs left f e l = ap f l

pub removed_none : (o : Option (List Route)) (f : List Route → Option (List Route)) → is_some o ≡ false → None ≡ option_and_then f o
removed_none None f e = refl
removed_none (Some less) f e = absurd (true≢false e)

-- ---- the whole call

-- a table with entries is not refilled
pub refilled_some : (rs : List Route) → 1 ≤ length rs → refilled rs ≡ rs
refilled_some [] h = absurd (omega arith)
refilled_some (r ∷ rs) h = refl

pub all_added : (es : List Entry) (rs is : List Route) → 1 ≤ length rs → can_add_all es ≡ true → Ok is ≡ added es rs → (Ok tt ≡ add_answer es rs) × (refilled is ≡ add_left es rs)
all_added es rs is some can e = at (ltb max_routes (length (insert_all es rs))) refl e
  where
    at : (t : Bool) → ltb max_routes (length (insert_all es rs)) ≡ t → Ok is ≡ cond t (Err Full) (Ok (insert_all es rs)) → (Ok tt ≡ add_answer es rs) × (refilled is ≡ add_left es rs)
    at true f g = let z : ◌≡◌ {A = ℕ} 0 1 = cc in absurd (omega arith)
    at false f g =
        let told : add_answer es rs ≡ Ok tt = λ i. cond (not (can i)) (Err NotAcceptable) (cond (f i) (Err Full) (Ok tt)) in
        let same : is ≡ insert_all es rs = cc in (
          sym told,
          refilled_some is (omega (arith, insert_all_grows es rs, ap length same)) ∙ same
              ∙ sym (cond-true (is_ok (add_answer es rs)) _ _ (ap is_ok told)),
        )

pub all_taken_back : (es : List Entry) (was is left : List Route) → 1 ≤ length was → can_add_all es ≡ true → Ok is ≡ added es was → left ≡ refilled is → OneTakenBack es was (Ok tt) left
all_taken_back es was is left some can e l =
    let all = all_added es was is some can e in one_taken_back es was left (Ok tt) all.0 (l ∙ all.1)
