-- The IRIs of works, as clauses see them.
use Rattle.frbr_names.specs.Works.{Work, Front}
use Rattle.frbr_names.specs.declared.work_iri.WorkIri.{WorkIri}
use Rattle.frbr_names.specs.declared.work_reading.Front.{Front as ReadFront}

-- the IRI of a work as what it says
abbrev pub work_view : WorkIri → Work
work_view iri =
    record { text = iri.text.now; jurisdiction = iri.jurisdiction.now; date = iri.date; number = iri.number.now }

-- the front of a name as what it says
abbrev pub front_view : ReadFront → Front
front_view front = record { jurisdiction = front.jurisdiction.now; date = front.date; left = front.left.now }
