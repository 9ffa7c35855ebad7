-- A section that is read so far, and what comes of it.
use Rattle.std.proofs.Common.{◌≡◌, ◌≤◌, ◌<◌, ◌+◌, ◌-◌, ℕ, List, [], ◌++◌, Option, None, true, false, inl, inr, length, take, drop, min, refl, sym, ap, ◌∙◌, subst, arith}
use Rattle.std.specs.Prelude.{Err, Ok}
use Rattle.std.specs.Option.{option_or}
use Rattle.std.proofs.lemmas.List.{append-nil, length-append, length-take, take-take, take_all}
use Rattle.std.proofs.lemmas.Bool.{cases_lt}
use Rattle.std.proofs.lemmas.List.Concat.{flat_map-append}
use Rattle.hex.specs.Hex.{IsBytes}
use Rattle.rad_base.specs.declared.names.Rid.{Rid}
use Rattle.commit_graph.specs.Objects.{Object}
use Rattle.repo_entries.specs.Items.{Item}
use Rattle.repo_slice.specs.Keeps.{Held}
use Rattle.repo_slice.specs.declared.keep_fault.KeepFault.{KeepFault}
use Rattle.unit_reader.specs.Units.{At, Broken, Place, Reading}
use Rattle.fetch_wire.specs.Judging.{first_unit, is_over}
use Rattle.fetch_wire.specs.SectionReaders.{HasRead, held_of, unit_of}
use Rattle.fetch_wire.specs.SectionReadings.{read_of}
use Rattle.fetch_wire.specs.declared.fault.Break.{Break}
use Rattle.fetch_wire.specs.declared.part.Part.{Part}
use Rattle.fetch_wire.specs.declared.part.Which.{Which}
use Rattle.fetch_wire.specs.declared.section_reader.SectionReader.{SectionReader}
use Rattle.fetch_wire.specs.declared.units.SectionUnits.{SectionUnits}
use Rattle.fetch_stages.specs.Pieces.{Fills, Uses}
use Rattle.fetch_stages.specs.Puts.{Joins, PutsAll, StopsPutting}
use Rattle.fetch_stages.specs.Sections.{ComesTo, GivesParts, HasReadBytes, HasReadCause, ReadsToEnd, StopsInSection, PutsPiece, PutsSection, PutsSome, PutsUpTo, StopsSection, head_of, object_of_part, objects_among}
use Rattle.fetch_stages.specs.declared.piece.Used.{Used}
use Rattle.fetch_stages.specs.declared.section.Section.{Section}
use Rattle.fetch_stages.specs.declared.section_stop.SectionStop.{SectionStop}
use Rattle.fetch_stages.specs.declared.section_stop.SectionStop.TheVariants as stop
use Rattle.fetch_stages.specs.declared.taken.Taken.{Taken}
use Rattle.fetch_stages.proofs.Contents.{bytes_front, bytes_more, reads_so_far, reads_to_end}
use Rattle.fetch_stages.proofs.Entering.{stops_behind_puts}
use Rattle.fetch_stages.proofs.Joining.{batches_along, joins_along, joins_none, stops_along}
use Rattle.fetch_stages.proofs.Parts.{heads_behind}
use Rattle.fetch_stages.proofs.Windows.{uses_filled, uses_more, uses_none}

-- of a section of at most so many bytes these are used, and its objects joined
pub record HasUsed {K O : Type 0} (made : K → O → List Item → Type 0) (held : K → Rid → Held) (rid : Rid)
    (caller : ℕ) (old new : K) (which : Which) (limit left : ℕ) (bytes bytes' : Option (List ℕ))
    (before after : List ℕ) (reader : SectionReader) (taken : Taken) : Type 0 where
  pub used : List ℕ
  pub parts : List Part
  pub uses : Uses bytes bytes' before used after
  pub fits : IsBytes used
  pub count : length used + left ≡ limit
  pub read : HasRead which used parts reader
  pub joins : Joins made held rid caller old new [] (objects_among parts) taken.batcher
  pub head : taken.head ≡ head_of parts

abbrev units_at : {F : Type 0} → SectionUnits → Place SectionUnits F → SectionUnits
units_at default (At units held rest) = units
units_at default (Broken broken) = default

-- a new reader's section has not ended
pub new_goes_on : (w : Which) (reader : SectionReader) → HasRead w [] [] reader → is_over (unit_of reader) ≡ false
new_goes_on w reader h =
    ap (λ (r : Reading SectionUnits Part Break). is_over (units_at (first_unit w) r.place)) (sym (reads_so_far w [] [] reader h))

-- nothing is used
pub used_none : {K O : Type 0} (made : K → O → List Item → Type 0) (held : K → Rid → Held) (rid : Rid) (caller : ℕ) (k : K)
    (which : Which) (limit : ℕ) (bytes : Option (List ℕ)) (before : List ℕ) (reader : SectionReader) (taken : Taken)
    → HasRead which [] [] reader → taken.head ≡ None → taken.batcher ≡ []
    → HasUsed made held rid caller k k which limit limit bytes bytes before before reader taken
used_none made held rid caller k which limit bytes before reader taken read head none = record {
  used = [];
  parts = [];
  uses = uses_none bytes before;
  fits = λ i. omega arith;
  count = omega arith;
  read = read;
  joins = rw none (joins_none made held rid caller k []);
  head = head;
}

-- objects that came are put but for those that wait
puts_some : {K O : Type 0} {made : K → O → List Item → Type 0} {held : K → Rid → Held} {rid : Rid} {caller : ℕ} {a b : K}
    (objects waiting : List Object) → Joins made held rid caller a b [] objects waiting
    → PutsSome made held rid caller a b objects waiting
puts_some objects waiting f =
    let x = f [] [] (refl, refl) in record { batches = x.0; cut = x.1; puts = x.2 }

objects_more : (parts more : List Part) → objects_among (parts ++ more) ≡ objects_among parts ++ objects_among more
objects_more parts more = flat_map-append object_of_part parts more

-- a front as long as the whole or as so many bytes
pub front_within : (left : ℕ) (after : List ℕ) → take (min (length after) left) after ≡ take left after
front_within left after = elim (cases_lt left (length after)) [
  | inl below ↦ ap (λ (n : ℕ). take n after) (shorter left (length after) below)
  | inr high ↦ ap (λ (n : ℕ). take n after) (longer left (length after) high)
      ∙ take_all (length after) after (omega arith) ∙ sym (take_all left after (omega (arith, high)))
]
  where
    shorter : (m n : ℕ) → m < n → min n m ≡ m
    shorter m n h = omega (arith, h)

    longer : (m n : ℕ) → n ≤ m → min n m ≡ n
    longer m n h = omega (arith, h)

-- the piece that is read: what waits, up to so many bytes
pub piece_is : (rest after : List ℕ) (most left : ℕ) → rest ≡ after → most ≡ min (length rest) left
    → take most rest ≡ take left after
piece_is rest after most left e f =
    ap (λ (n : ℕ). take n rest) f ∙ front_within left rest ∙ ap (λ (l : List ℕ). take left l) e

module _ {K O : Type 0} {made : K → O → List Item → Type 0} {held : K → Rid → Held} {rid : Rid} {caller : ℕ} {a b : K}
    {which : Which} {limit left : ℕ} {l l' : Option (List ℕ)} {before after : List ℕ} {reader : SectionReader} {taken : Taken}
    (s : HasUsed made held rid caller a b which limit left l l' before after reader taken) where
  -- what waits is more
  pub used_filled : (l'' : Option (List ℕ)) (filled : List ℕ) → Fills l' l'' after filled
      → HasUsed made held rid caller a b which limit left l l'' before filled reader taken
  used_filled l'' filled f = record {
    used = s.used;
    parts = s.parts;
    uses = uses_filled l l' l'' before s.used after filled s.uses f;
    fits = s.fits;
    count = s.count;
    read = s.read;
    joins = s.joins;
    head = s.head;
  }

  -- the reader has read bytes
  pub has_read_bytes : HasReadBytes reader
  has_read_bytes = (which, s.used, s.parts, s.read, s.fits)

  -- it is inside the section
  pub inside : is_over (unit_of reader) ≡ false → StopsInSection which s.used s.parts (unit_of reader).place
  inside going = record {
    units = unit_of reader;
    held = held_of reader;
    goes_on = going;
    reads = reads_so_far which s.used s.parts reader s.read;
    begins = refl;
  }

  -- the section stops by its bytes
  pub stops_now : (end : ℕ) (at_end : Type 0) (why : SectionStop) → ComesTo which limit s.used after s.parts at_end why
      → ((objects : List Object) → (waiting : List Object) × PutsSome made held rid caller a b objects waiting
      → PutsUpTo made held rid caller end a b (ReadsToEnd which s.used s.parts) objects why)
      → StopsSection made held rid caller end a b which limit l l' before after at_end why
  stops_now end at_end why comes puts = record {
    used = s.used;
    parts = s.parts;
    uses = s.uses;
    within = omega (arith, s.count);
    fits = s.fits;
    comes = comes;
    puts = puts (objects_among s.parts) (taken.batcher, puts_some (objects_among s.parts) taken.batcher s.joins);
  }

  -- a piece is used
  pub used_more : (c : K) (most : ℕ) (u : Used) (reader' : SectionReader) (taken' : Taken) (end : ℕ)
      → IsBytes (take most after) → length (take most after) ≤ left
      → PutsPiece made held rid caller end b c which s.used s.parts (take most after) taken taken' reader' (Ok u)
      → HasUsed made held rid caller a c which limit (left - u.count) l l' before (drop u.count after) reader' taken'
  used_more c most u reader' taken' end fits short p =
      let more = p.0 in
      let size = length-append s.used (take u.count (take most after)) in
      let size' = length-take u.count (take most after) in
      record {
        used = s.used ++ take u.count (take most after);
        parts = s.parts ++ more;
        uses = uses_more l l' before s.used after u.count most s.uses p.2;
        fits = bytes_more s.used (take u.count (take most after)) s.fits (bytes_front u.count (take most after) fits);
        count = omega (arith, size, size', p.2, short, s.count);
        read = p.1;
        joins = rw objects_more
            (joins_along made held rid caller a b c [] (objects_among s.parts) taken.batcher (objects_among more) taken'.batcher s.joins p.6);
        head = p.5 ∙ ap (λ (h : Option Part). option_or h (head_of more)) s.head ∙ sym (heads_behind s.parts more);
      }

  -- all is put
  pub puts_section : (c : K) (section : Section) → is_over (unit_of reader) ≡ true
      → PutsAll made held rid caller b c taken.batcher → section.head ≡ taken.head → section.used ≡ limit - left
      → PutsSection made held rid caller a c which limit l l' before after section
  puts_section c section over f head count =
      let x = s.joins [] [] (refl, refl) in
      let y = f (objects_among s.parts) x.0 x.1 in
      record {
        bytes = s.used;
        parts = s.parts;
        uses = s.uses;
        within = omega (arith, s.count);
        fits = s.fits;
        ends = reads_to_end which s.used s.parts reader s.fits s.read over;
        puts = record {
          batches = x.0 ++ y.0;
          cut = y.1;
          puts = batches_along made held rid caller a b c x.0 y.0 x.2 y.2;
        };
        head = head ∙ s.head;
        count = omega (arith, count, s.count);
      }

  -- the last batch is not put
  pub stops_last_put : (c : K) (end : ℕ) (at_end : Type 0) (why : KeepFault) → is_over (unit_of reader) ≡ true
      → StopsPutting made rid caller end b c taken.batcher why
      → StopsSection made held rid caller end a c which limit l l' before after at_end (stop.Keep why)
  stops_last_put c end at_end why over f =
      let x = s.joins [] [] (refl, refl) in
      let y = f (objects_among s.parts) x.0 x.1 in
      record {
        used = s.used;
        parts = s.parts;
        uses = s.uses;
        within = omega (arith, s.count);
        fits = s.fits;
        comes = (
          0,
          omega arith,
          (
            At (unit_of reader) (held_of reader) [],
            ap (λ (k : List ℕ). read_of which k) (append-nil s.used) ∙ reads_so_far which s.used s.parts reader s.read,
            refl,
          ),
          subst (λ (l : List ℕ). IsBytes l) (sym (append-nil s.used)) s.fits,
        );
        puts = (
          x.0 ++ y.0,
          inr (reads_to_end which s.used s.parts reader s.fits s.read over, y.1),
          stops_behind_puts made rid caller end a b c x.0 y.0 why x.2.entered y.2,
        );
      }

  -- a piece shows a break
  stops_broken : (c : K) (end : ℕ) (at_end : Type 0) (piece : List ℕ) (reader' : SectionReader) (taken' : Taken) (broken : Break)
      → piece ≡ take left after
      → PutsPiece made held rid caller end b c which s.used s.parts piece taken taken' reader' (Err (stop.Bad broken))
      → StopsSection made held rid caller end a c which limit l l' before after at_end (stop.Bad broken)
  stops_broken c end at_end piece reader' taken' broken e p =
      let rest : limit - length s.used ≡ left = omega (arith, s.count) in
      record {
        used = s.used;
        parts = s.parts ++ p.0;
        uses = s.uses;
        within = omega (arith, s.count);
        fits = s.fits;
        comes = ap (λ (n : ℕ). read_of which (s.used ++ take n after)) rest
            ∙ ap (λ (k : List ℕ). read_of which (s.used ++ k)) (sym e) ∙ p.1;
        puts = rw objects_more (
          taken'.batcher,
          puts_some _ taken'.batcher
              (joins_along made held rid caller a b c [] (objects_among s.parts) taken.batcher (objects_among p.0) taken'.batcher s.joins p.2),
        );
      }

  -- a call of the keep is refused while the objects of a piece joined
  stops_refused : (c : K) (end : ℕ) (at_end : Type 0) (piece : List ℕ) (reader' : SectionReader) (taken' : Taken) (why : KeepFault)
      → piece ≡ take left after → IsBytes piece
      → PutsPiece made held rid caller end b c which s.used s.parts piece taken taken' reader' (Err (stop.Keep why))
      → StopsSection made held rid caller end a c which limit l l' before after at_end (stop.Keep why)
  stops_refused c end at_end piece reader' taken' why e fits p =
      let size = length-take left after in
      let within : p.1 ≤ length (take left after) = subst (λ (k : List ℕ). p.1 ≤ length k) e p.2 in
      let few : p.1 ≤ left = omega (arith, within, size) in
      let first : take p.1 piece ≡ take p.1 after = ap (λ (k : List ℕ). take p.1 k) e ∙ take-take p.1 left after few in
      let t = stops_along made held rid caller end a b c [] (objects_among s.parts) taken.batcher (objects_among p.0) why s.joins p.4 [] [] (refl, refl) in
      record {
        used = s.used;
        parts = s.parts ++ p.0;
        uses = s.uses;
        within = omega (arith, s.count);
        fits = s.fits;
        comes = (
          p.1,
          omega (arith, few, s.count),
          subst (λ (k : List ℕ). GivesParts which (s.used ++ k) (s.parts ++ p.0)) first p.3,
          subst (λ (k : List ℕ). IsBytes (s.used ++ k)) first (bytes_more s.used (take p.1 piece) s.fits (bytes_front p.1 piece fits)),
        );
        puts = rw objects_more (t.3, inl (t.0, t.1, t.4, t.2, t.5), t.6);
      }

  -- memory for the bytes of a piece was refused
  stops_for_memory : (c : K) (end : ℕ) (at_end : Type 0) → is_over (unit_of reader) ≡ false → c ≡ b
      → StopsSection made held rid caller end a c which limit l l' before after at_end stop.NoMemory
  stops_for_memory c end at_end going e =
      subst (λ (k : K). StopsSection made held rid caller end a k which limit l l' before after at_end stop.NoMemory) (sym e)
      (stops_now end at_end stop.NoMemory ((unit_of reader).place, inside going) (λ objects x. x))

  -- a piece is refused
  pub stops_at_piece : (c : K) (end : ℕ) (at_end : Type 0) (piece : List ℕ) (reader' : SectionReader) (taken' : Taken) (why : SectionStop)
      → is_over (unit_of reader) ≡ false → piece ≡ take left after → IsBytes piece
      → PutsPiece made held rid caller end b c which s.used s.parts piece taken taken' reader' (Err why)
      → StopsSection made held rid caller end a c which limit l l' before after at_end why
  stops_at_piece c end at_end piece reader' taken' (stop.Bad broken) going e fits p = stops_broken c end at_end piece reader' taken' broken e p
  stops_at_piece c end at_end piece reader' taken' (stop.Keep why) going e fits p = stops_refused c end at_end piece reader' taken' why e fits p
  stops_at_piece c end at_end piece reader' taken' stop.NoMemory going e fits p = stops_for_memory c end at_end going p.0
  stops_at_piece c end at_end piece reader' taken' stop.ReadFault going e fits p = absurd p
  stops_at_piece c end at_end piece reader' taken' (stop.Ends place) going e fits p = absurd p
  stops_at_piece c end at_end piece reader' taken' (stop.TooLong place) going e fits p = absurd p

  -- what a piece is refused for is no fault of the input
  pub read_no_fault : (c : K) (end faults faults' : ℕ) (piece : List ℕ) (reader' : SectionReader) (taken' : Taken) (why : SectionStop)
      → PutsPiece made held rid caller end b c which s.used s.parts piece taken taken' reader' (Err why)
      → HasReadCause faults faults' why
  read_no_fault c end faults faults' piece reader' taken' (stop.Bad broken) p = tt
  read_no_fault c end faults faults' piece reader' taken' (stop.Keep why) p = tt
  read_no_fault c end faults faults' piece reader' taken' stop.NoMemory p = tt
  read_no_fault c end faults faults' piece reader' taken' stop.ReadFault p = absurd p
  read_no_fault c end faults faults' piece reader' taken' (stop.Ends place) p = tt
  read_no_fault c end faults faults' piece reader' taken' (stop.TooLong place) p = tt

  -- a piece of what waits is used
  pub used_piece : (c : K) (rest : List ℕ) (most : ℕ) (u : Used) (reader' : SectionReader) (taken' : Taken) (end : ℕ)
      → rest ≡ after → most ≡ min (length rest) left → IsBytes (take most rest)
      → PutsPiece made held rid caller end b c which s.used s.parts (take most rest) taken taken' reader' (Ok u)
      → HasUsed made held rid caller a c which limit (left - u.count) l l' before (drop u.count after) reader' taken'
  used_piece c rest most u reader' taken' end f g fits p =
      let e = piece_is rest after most left f g in
      let size = length-take left after in
      used_more c left u reader' taken' end (subst (λ (k : List ℕ). IsBytes k) e fits) (omega (arith, size))
      (subst (λ (k : List ℕ). PutsPiece made held rid caller end b c which s.used s.parts k taken taken' reader' (Ok u)) e p)
