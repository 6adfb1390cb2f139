mod TallyLaws
