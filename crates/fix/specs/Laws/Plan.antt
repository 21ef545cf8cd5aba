-- What the writer's functions promise each other: a value planned before it is written, its length, and the room that is left.
-- No promise to others rests on this. Rests on Values and Record.
use Rattle.std.specs.Prelude.{ℕ, ◌+◌, ◌-◌, ◌*◌, ◌^◌, ◌≤◌, ◌<◌, ◌≡◌, List, [], ◌∷◌, ◌++◌, Bool, true, not, ◌&&◌, eqb, leb, length, get_or, drop, Option, None, Some}
use Rattle.prelude.specs.Cases.{if◌then◌otherwise◌}
use Rattle.prelude.specs.Below.{all_below}
use Rattle.prelude.specs.Number.{number}
use Rattle.prelude.specs.Span.{span}
use Rattle.bits.specs.Map.{bit}
use Rattle.format.specs.Format.{is_text_bit}
use Rattle.format.specs.Places.{start, content, value, map_at}
use Rattle.format.specs.Refusal.{ranged}
use Rattle.records.specs.Parts.{whole_message}
use Rattle.decimal.specs.Decimal.{digits, decimal}
use Rattle.fix_words.specs.Spelling.{Field, field, spellings}
use Rattle.fix_table.specs.Table.{form_of, spoken, none_number}
use Rattle.fix_table.specs.declared.Form.{Form}
use Rattle.fix_table.specs.declared.Form.TheVariants.{Text, Code, Number as Decimals}
use Rattle.fix_words.specs.Rows.{Row, field_of}
use Rattle.fix_words.specs.Values.{rows, type_of}
use Rattle.fix_words.specs.Message.{version, is_text, inner}
use Rattle.fix_words.specs.Record.{Session, writing_of, write_refusal}
use Rattle.fix.specs.declared.value.Value.{Value}
use Rattle.fix.specs.declared.value.Value.TheVariants.{Bytes, Number, Price, Fixed, Exec}
use Rattle.fix.specs.declared.write.Plan.{Plan}

-- ---- a record's parts, as records gives them

pub record Parted (s : List ℕ) (m : ℕ) (at ns : List ℕ) (upper : ℕ) : Type 0 where
  pub whole : whole_message s ≡ true
  pub right : ranged s 0 ≡ true
  pub map : m ≡ map_at s 0
  pub places : (k : ℕ) → k ≤ 32 → get_or at k 0 ≡ start s 0 m k
  pub numbers : (b : ℕ) → b < 32 → get_or ns b 0 ≡ value b (content s 0 m b)
  pub high : upper ≡ number (drop 8 (content s 0 m 26))

-- ---- a value, planned

-- by its form the value of bit b that stands and ends at `to`, from its number
abbrev pub by_form : (to n high b : ℕ) → Form → Value
by_form to n high b Text = Bytes (to - n) n
by_form to n high b Code = Bytes (to - 1) 1
by_form to n high b (Decimals places) = if eqb b 26 && not (eqb high 0) then Price n high places otherwise Number n places

unfoldable pub plain_plan : (to n high b : ℕ) → Value
plain_plan to n high b = by_form to n high b (form_of b)

unfoldable pub fixed_plan : (m n : ℕ) → Option Value
fixed_plan m n = if bit m 27 then Some (Fixed n) otherwise None

-- the ExecID
unfoldable pub exec_plan : (m : ℕ) (at ns : List ℕ) → Option Value
exec_plan m at ns = if bit m 25 then Some (Exec (get_or at 3 0 - get_or ns 2 0) (get_or ns 2 0) (get_or ns 25 0)) otherwise None

-- what stands in a reject for a bit that does not
unfoldable pub instead_plan : (k m n b : ℕ) → Option Value
instead_plan k m n b =
    if not (eqb k 17) then None otherwise
    if eqb b 2 then Some (Fixed none_number) otherwise
    if eqb b 20 then fixed_plan m n otherwise
    None

unfoldable pub planned : (k m : ℕ) (at ns : List ℕ) (high b : ℕ) → Option Value
planned k m at ns high b =
    if eqb b 25 then exec_plan m at ns otherwise
    if eqb b 27 then fixed_plan m (get_or ns 27 0) otherwise
    if bit m b then Some (plain_plan (get_or at (b + 1) 0) (get_or ns b 0) high b) otherwise
    instead_plan k m (get_or ns 27 0) b

-- ---- what a planned value is, and how long

unfoldable pub said_by : List ℕ → Value → List ℕ
said_by s (Bytes f n) = span s f n
said_by s (Number n p) = decimal p n
said_by s (Price l h p) = decimal p (l + 2 ^ 64 * h)
said_by s (Fixed n) = get_or spoken n []
said_by s (Exec f n l) = span s f n ++ (46 ∷ digits l)

unfoldable pub shown : List ℕ → Option Value → Option (List ℕ)
shown s None = None
shown s (Some v) = Some (said_by s v)

unfoldable pub long_of : Value → ℕ
long_of (Bytes f n) = n
long_of (Number n p) = length (decimal p n)
long_of (Price l h p) = length (decimal p (l + 2 ^ 64 * h))
long_of (Fixed n) = length (get_or spoken n [])
long_of (Exec f n l) = n + (1 + length (digits l))

-- a field: the tag, =, the value, SOH
unfoldable pub field_long : ℕ → Option Value → ℕ
field_long tag None = 0
field_long tag (Some v) = length (decimal 0 tag) + (1 + (long_of v + 1))

abbrev pub field_shown : List ℕ → ℕ → Option Value → List ℕ
field_shown s tag v = spellings (field_of tag (shown s v) [])

-- where its bytes end
abbrev pub reach : Option Value → ℕ
reach None = 0
reach (Some (Bytes f n)) = f + n
reach (Some (Number n p)) = 0
reach (Some (Price l h p)) = 0
reach (Some (Fixed n)) = 0
reach (Some (Exec f n l)) = f + n

-- its bytes stand in the buffer
abbrev pub Sound : List ℕ → Option Value → Type 0
Sound s v = reach v ≤ length s

-- the fields of rows
unfoldable pub rows_long : List Row → (ℕ → Option Value) → ℕ
rows_long [] f = 0
rows_long (r ∷ rows) f = field_long r.tag (f r.bit) + rows_long rows f

unfoldable pub rows_shown : List ℕ → List Row → (ℕ → Option Value) → List ℕ
rows_shown s [] f = []
rows_shown s (r ∷ rows) f = field_shown s r.tag (f r.bit) ++ rows_shown s rows f

-- ---- the room that is left

unfoldable pub less_by : Option ℕ → ℕ → Option ℕ
less_by None n = None
less_by (Some room) n = if leb n room then Some (room - n) otherwise None

-- ---- the fields before the body

-- 8 and 9, with the body's length
abbrev pub first_two : ℕ → List Field
first_two n = field 8 version ∷ field 9 (digits n) ∷ []

-- 35 to 52
abbrev pub head_fields : (k : ℕ) (sender target : List ℕ) (sequence : ℕ) (time : List ℕ) → List Field
head_fields k sender target sequence time =
    field 35 (type_of k ∷ []) ∷ field 49 sender ∷ field 56 target ∷ field 34 (digits sequence) ∷ field 52 time ∷ []

-- 60 in D, F and G
abbrev pub stamp_fields : ℕ → List ℕ → List Field
stamp_fields k time = if leb 18 k then field 60 time ∷ [] otherwise []

-- their length, from the lengths of the texts
unfoldable pub stamp_long : (k time : ℕ) → ℕ
stamp_long k time = if leb 18 k then 4 + time otherwise 0

unfoldable pub head_long : (sender target sequence time : ℕ) → ℕ
head_long sender target sequence time = 5 + (4 + (sender + (4 + (target + (4 + (length (digits sequence) + (4 + time)))))))

-- 8, 9 with the body's length, and 10
unfoldable pub frame_long : ℕ → ℕ
frame_long n = 20 + length (digits n)

unfoldable pub inner_long : (sender target sequence time k m : ℕ) (at ns : List ℕ) (high : ℕ) → ℕ
inner_long sender target sequence time k m at ns high =
    head_long sender target sequence time + (rows_long (rows k) (planned k m at ns high) + stamp_long k time)

-- ---- texts

unfoldable pub text_right : List ℕ → (m to n b : ℕ) → Bool
text_right s m to n b =
    if not (is_text_bit b) then true otherwise
    if not (bit m b) then true otherwise
    is_text (span s (to - n) n)

unfoldable pub texts_right : List ℕ → ℕ → (at ns : List ℕ) → Bool
texts_right s m at ns = all_below (λ b. text_right s m (get_or at (b + 1) 0) (get_or ns b 0) b) 32

-- ---- what is decided before a byte is written

pub record Decided (s : List ℕ) (n : Session) (room : ℕ) (p : Plan) : Type 0 where
  pub taken : write_refusal s n room ≡ 0
  pub parted : Parted s p.parts.map p.parts.at p.parts.numbers p.parts.high
  pub body : p.body ≡ length (spellings (inner (writing_of s n)))
