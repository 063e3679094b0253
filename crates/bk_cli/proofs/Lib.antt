mod LeadLemmas
mod ReportLemmas
mod WordLemmas
mod ZipLemmas
