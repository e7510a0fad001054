-- What a cursor wrote and what it leaves, piece after piece.
use Rattle.std.proofs.Common.{◌≡◌, ℕ, ◌-◌, List, [], ◌++◌, true, Result, Ok, Err, length, drop, sym, ap, ◌∙◌, length-append, length-drop}
use Rattle.std.proofs.lemmas.List.{drop-drop, take-append-drop}
use Rattle.std.specs.Result.{OnOk, is_ok}
use Rattle.refusals.specs.declared.Refusal.{Refusal}
use Rattle.frame.specs.Buffer.{laid}
use Rattle.frame.specs.Cursor.{written, rest, Puts}
use Rattle.frame.specs.declared.cursor.Cursor.{Cursor}

-- the cursor wrote `front` over a buffer that held `was`
pub record Wrote (c : Cursor) (front was : List ℕ) : Type 0 where
  pub front_is : written c ≡ front
  pub rest_is : rest c ≡ drop (length front) was

pub wrote_then : (c c' : Cursor) (front bytes was : List ℕ) → Wrote c front was → Puts c bytes c' → Wrote c' (front ++ bytes) was
wrote_then c c' front bytes was w p = record {
  front_is = p.more ∙ ap (λ (l : List ℕ). l ++ bytes) w.front_is;
  rest_is = p.left ∙ ap (drop (length bytes)) w.rest_is ∙ drop-drop (length bytes) (length front) was ∙ ap (λ (n : ℕ). drop n was) (sym (length-append front bytes));
}

pub wrote_room : (c : Cursor) (front was : List ℕ) → Wrote c front was → length (rest c) ≡ length was - length front
wrote_room c front was w = ap length w.rest_is ∙ length-drop (length front) was

-- what it leaves in the buffer
pub wrote_left : (c : Cursor) (front was : List ℕ) → Wrote c front was → c.out.now ≡ laid front was
wrote_left c front was w = sym (take-append-drop c.at c.out.now) ∙ (λ i. w.front_is i ++ w.rest_is i)

-- over a buffer of its own
pub wrote_none : (c : Cursor) (was : List ℕ) → written c ≡ [] → rest c ≡ was → Wrote c [] was
wrote_none c was f r = record { front_is = f; rest_is = r }

-- where bytes have room they are written
pub on_ok : {P : Type 0} (r : Result (Unit {0}) Refusal) → is_ok r ≡ true → OnOk r P → P
on_ok (Ok x) h p = p
on_ok (Err why) h p = absurd (cc h)
