-- Reading a record from any bytes. Assumes nothing.
use Rattle.std.specs.Prelude.{ℕ, ◌+◌, cond, List, length, take, drop, Some, None, Ok, Err, Option, Result, ◌==◌, bit_and, nat_le, nat_lt, slice_index}
use Rattle.board.specs.declared.refusal.Cause.TheVariants.{RecordCut, BadRecord}
use Rattle.board.specs.declared.refusal.Layer.TheVariants.{Records}
use Rattle.board.specs.declared.refusal.Refusal.{Refusal}
use Rattle.report.specs.declared.fields.Fields.{Fields}
use Rattle.report.specs.Fields.{of_one_byte, of_four_bytes}
use Rattle.mirror.specs.declared.reader.Place.{Place}
use Rattle.mirror.specs.declared.record.Record.{Record}
use Rattle.mirror.specs.Record.{fields_in_range}

abbrev pub cut : ℕ → Refusal
cut offset = record { cause = RecordCut; layer = Records; place = offset }

abbrev pub bad : ℕ → Refusal
bad offset = record { cause = BadRecord; layer = Records; place = offset }

abbrev pub byte_answer : ℕ → List ℕ → ℕ → Result ℕ Refusal
byte_answer offset bs p = cond (nat_lt p (length bs)) (Ok (slice_index bs p)) (Err (cut offset))

abbrev pub place_after_byte : List ℕ → Place → Place
place_after_byte bs p = cond (nat_lt p.at (length bs)) (record { at = p.at + 1 }) p

-- a field, whose value takes n bytes, is there where its bit stands in the map
abbrev pub field_width : ℕ → ℕ → ℕ → ℕ
field_width n map bit = cond (bit_and map bit == 0) 0 n

abbrev pub fields_width : ℕ → ℕ
fields_width map =
    field_width 1 map 1 + field_width 1 map 2 + field_width 1 map 4 + field_width 1 map 8 + field_width 1 map 16 + field_width 1 map 32 + field_width 1 map 64 + field_width 4 map 128

-- how many bytes the fields of a bit map take
unfoldable pub fields_size : ℕ → ℕ
fields_size map = fields_width map

-- the field at the front of the bytes, with the value that its n bytes say
abbrev pub field_at : {V : Type 0} → ℕ → (List ℕ → V) → ℕ → ℕ → List ℕ → Option V
field_at n value map bit bs = cond (bit_and map bit == 0) None (Some (value (take n bs)))

-- the fields of a record stand one behind the other: what is left of the bytes after each
abbrev pub rest_1 : ℕ → List ℕ → List ℕ
rest_1 map bs = drop (field_width 1 map 1) bs

abbrev pub rest_2 : ℕ → List ℕ → List ℕ
rest_2 map bs = drop (field_width 1 map 2) (rest_1 map bs)

abbrev pub rest_3 : ℕ → List ℕ → List ℕ
rest_3 map bs = drop (field_width 1 map 4) (rest_2 map bs)

abbrev pub rest_4 : ℕ → List ℕ → List ℕ
rest_4 map bs = drop (field_width 1 map 8) (rest_3 map bs)

abbrev pub rest_5 : ℕ → List ℕ → List ℕ
rest_5 map bs = drop (field_width 1 map 16) (rest_4 map bs)

abbrev pub rest_6 : ℕ → List ℕ → List ℕ
rest_6 map bs = drop (field_width 1 map 32) (rest_5 map bs)

abbrev pub rest_7 : ℕ → List ℕ → List ℕ
rest_7 map bs = drop (field_width 1 map 64) (rest_6 map bs)

unfoldable pub fields_read : ℕ → List ℕ → Fields
fields_read map bs = record {
  present_value = field_at 1 of_one_byte map 1 bs;
  status_flags = field_at 1 of_one_byte map 2 (rest_1 map bs);
  door_alarm_state = field_at 1 of_one_byte map 4 (rest_2 map bs);
  door_status = field_at 1 of_one_byte map 8 (rest_3 map bs);
  lock_status = field_at 1 of_one_byte map 16 (rest_4 map bs);
  secured_status = field_at 1 of_one_byte map 32 (rest_5 map bs);
  output = field_at 1 of_one_byte map 64 (rest_6 map bs);
  released_tenths = field_at 4 of_four_bytes map 128 (rest_7 map bs);
}

abbrev pub record_at : List ℕ → ℕ → Record
record_at bs p = record { offset = p; door = slice_index bs (p + 1); fields = fields_read (slice_index bs p) (drop (p + 2) bs) }

-- what reading at p answers, for a mirror of n rows: the end, a cut record, a bad one, or the record
abbrev pub next_answer : List ℕ → ℕ → ℕ → Result (Option Record) Refusal
next_answer bs p n =
    cond (nat_le (length bs) p) (Ok None)
    (cond (nat_lt (length bs) (p + 2)) (Err (cut p))
    (cond (nat_lt (length bs) (p + 2 + fields_size (slice_index bs p))) (Err (cut p))
    (cond (slice_index bs p == 0) (Err (bad p))
    (cond (nat_le n (slice_index bs (p + 1))) (Err (bad p))
    (cond (fields_in_range (record_at bs p).fields) (Ok (Some (record_at bs p))) (Err (bad p)))))))

-- a record that is read is passed; otherwise the place stays
abbrev pub place_after : Result (Option Record) Refusal → List ℕ → ℕ → ℕ
place_after (Ok (Some r)) bs p = p + 2 + fields_size (slice_index bs p)
place_after (Ok None) bs p = p
place_after (Err e) bs p = p
